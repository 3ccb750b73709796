-- What the model finds over bits, for any bits t of the unknowns: `decoded` proves the record `Decoded`.
-- Its equations are the residuals of the closed frozen positions, in order, and then the check's remainder.
use mathlib.Core.Path.{◌≡◌, sym, ap, ap₂, ◌∙◌, subst}
use Prim.Native.Nat.{ℕ, ◌+◌, ◌^◌}
use native.Mathlib.Nat.{zero-add}
use mathlib.Core.Bool.{Bool, true}
use mathlib.Core.List.{List, ◌++◌, map}
use mathlib.Core.Option.{Option}
use lib.ListN.{length, length-map}
use Rattle.bits.specs.Vectors.{tab, ones}
use Rattle.bits.proofs.Tests.{tab_ext}
use Rattle.meaning.specs.Transform.{polar}
use Rattle.meaning.specs.Sheet.{Rule, early}
use Rattle.meaning.specs.Codewords.{agrees}
use Rattle.meaning.specs.Open.{open_free, open_all, unknowns}
use Rattle.model.specs.Model.{Walk, Out, start, checks, symbol, run, system}
use Rattle.model.specs.AtBits.{bits}
use Rattle.model.specs.Decoded.{picked, kept_open, residuals, Decoded}
use Rattle.model.specs.Counted.{lost}
use Rattle.model.proofs.Halves.{opens-symbols, agrees_syms, agrees-symbols}
use Rattle.model.proofs.Leaf.{leaf, agrees_leaf, lost_leaf}
use Rattle.model.proofs.AtBits.{rules-start, checks-bits, walk, reads, walk_us, found}
use Rattle.model.proofs.Walked.{reads_agrees, reads_given, reads_kept}

module _ (rule : ℕ → Rule) (n : ℕ) (w : List ℕ) (lw : length w ≡ 2 ^ n) (ok : early 0 (tab (2 ^ n) rule) ≡ true) (t : ℕ → Bool) where
  abbrev ks : List Rule
  ks = tab (2 ^ n) rule

  abbrev syms : List (Option Bool)
  syms = map (symbol (bits t)) w

  l_syms : length syms ≡ 2 ^ n
  l_syms = length-map w (symbol (bits t)) ∙ lw

  -- a run that reads the bits v off the symbols that reach the positions
  module _ (r : ℕ) (o : Out Bool) (v : List Bool) (lv : length v ≡ 2 ^ n) (bv : o.block ≡ polar n v)
      (wv : o.after ≡ walk t ks (leaf t n syms v) start) (rv : v ≡ reads t ks (leaf t n syms v) start) where
    us_v : o.after.us ≡ v
    us_v = ap (λ (s : Walk Bool). s.us) wv ∙ walk_us t ks (leaf t n syms v) start ∙ sym rv

    at_v : Decoded rule n r w t v o.block (o.after.eqs ++ checks (bits t) r ks v)
    unfolding unknowns
    at_v =
        let xs : List (Option Bool) = leaf t n syms v in
        let e : map lost xs ≡ open_all n w = lost_leaf t n v lv syms l_syms ∙ opens-symbols (bits t) n w lw in
        let g : ℕ = ones (open_free ks (open_all n w)) in
        let (p, q) = reads_kept t ks xs start ok v rv in
        let q' : o.after.eqs ≡ residuals ks (open_all n w) v v = ap (λ (s : Walk Bool). s.eqs) wv ∙ q ∙ ap₂ (λ (f y : List Bool). residuals ks f v y) e (sym rv) in
        record {
          size = lv;
          block = sym bv;
          agree = ap (agrees w) bv ∙ sym (agrees-symbols t w (polar n v)) ∙ agrees_leaf t n v lv syms l_syms ∙ ap (agrees_syms xs) rv ∙ reads_agrees t ks xs start;
          given = ap₂ picked (ap (open_free ks) (sym e)) rv ∙ reads_given t ks xs start
              ∙ ap (λ (f : List Bool). tab (ones (open_free ks f)) (λ (j : ℕ). t (0 + j))) e ∙ tab_ext g (λ (j : ℕ). t (0 + j)) t (λ j. ap t (zero-add j));
          kept = ap₂ (λ (f y : List Bool). kept_open ks f v y) (sym e) rv ∙ p;
          left = ap₂ {C = List Bool} ◌++◌ q' (checks-bits t r ks v);
        }

  pub decoded : (r : ℕ) → let o = run (bits t) rule n w in Decoded rule n r w t o.after.us o.block (system (bits t) rule n r w)
  unfolding run system
  decoded r =
      let o = run (bits t) rule n w in
      let (v, (lv, bv, wv, rv)) = found t rule n syms l_syms start in
      let wv' : o.after ≡ walk t ks (leaf t n syms v) start = wv ∙ ap (λ (l : List Rule). walk t l (leaf t n syms v) start) (rules-start rule (2 ^ n)) in
      let rv' : v ≡ reads t ks (leaf t n syms v) start = rv ∙ ap (λ (l : List Rule). reads t l (leaf t n syms v) start) (rules-start rule (2 ^ n)) in
      subst (λ (u : List Bool). Decoded rule n r w t u o.block (o.after.eqs ++ checks (bits t) r ks u)) (sym (us_v r o v lv bv wv' rv')) (at_v r o v lv bv wv' rv')
