-- What the walk along the positions reads: it agrees with the symbols, gives each open free position the next unknown, keeps the rule of each open frozen position,
-- and leaves one equation for each closed frozen one: its bit plus what its rule asks for.
--     rules-split                                the rules are kept: at the open positions, and with no residual at the closed ones
--     walk_next, walk_many                       how many unknowns and equations there are
--     reads_agrees, reads_given, reads_kept      what is read
use mathlib.Core.Path.{◌≡◌, refl, sym, ap, ap₂, ◌∙◌}
use Prim.Native.Nat.{ℕ, suc, ◌+◌}
use native.Mathlib.Omega.{arith}
use native.Mathlib.Numerals.{one-add}
use native.Mathlib.Nat.{suc_inj, add-zero, zero-add}
use mathlib.Core.Bool.{Bool, true, false, ◌&&◌, not, and_assoc, and_comm}
use mathlib.Core.List.{List, [], ◌∷◌, ◌++◌, map, append-nil, append_assoc}
use mathlib.Core.Option.{Option, none, some}
use lib.ListN.{length, drop, length-append}
use Rattle.bits.specs.Vectors.{◌⊕◌, tab, zeros, ones, odd}
use Rattle.bits.proofs.Tests.{and_l, and_r, and_i, tab_ext}
use Rattle.bits.proofs.Xor.{⊕-eq}
use Rattle.meaning.specs.Sheet.{Rule, free, frozen, early}
use Rattle.meaning.specs.Check.{keeps_rules}
use Rattle.meaning.specs.Open.{open_free, closed_frozen}
use Rattle.meaning.proofs.Gap.{odd-early}
use Rattle.model.specs.Model.{Walk, rule_value, value_at, eqs_at, step_at}
use Rattle.model.specs.AtBits.{bits}
use Rattle.model.specs.Decoded.{picked, kept_open, residuals}
use Rattle.model.specs.Counted.{lost}
use Rattle.model.proofs.Halves.{agrees_syms}
use Rattle.model.proofs.AtBits.{rule_bit, walk, reads}

-- ---- the rules, by open and closed positions

pub rules-split : (ks : List Rule) (o u v : List Bool) → length ks ≡ length o → keeps_rules ks u v ≡ kept_open ks o u v && zeros (residuals ks o u v)
rules-split [] o u v h = refl
rules-split (k ∷ ks) [] u v h = absurd (omega arith)
rules-split (free ∷ ks) (x ∷ o) u [] h = refl
rules-split (frozen c m ∷ ks) (x ∷ o) u [] h = refl
rules-split (free ∷ ks) (x ∷ o) u (b ∷ v) h = rules-split ks o u v (suc_inj h)
rules-split (frozen c m ∷ ks) (true ∷ o) u (b ∷ v) h =
    let f = not (b ⊕ (c ⊕ odd m u)) in
    ap (λ (x : Bool). f && x) (rules-split ks o u v (suc_inj h)) ∙ sym (and_assoc f (kept_open ks o u v) (zeros (residuals ks o u v)))
rules-split (frozen c m ∷ ks) (false ∷ o) u (b ∷ v) h =
    let f = not (b ⊕ (c ⊕ odd m u)) in
    let k = kept_open ks o u v in
    let z = zeros (residuals ks o u v) in
    ap (λ (x : Bool). f && x) (rules-split ks o u v (suc_inj h)) ∙ sym (and_assoc f k z) ∙ ap (λ (x : Bool). x && z) (and_comm f k) ∙ and_assoc k f z

-- ---- one position more

-- what a rule asks for, from the bits so far and from the whole vector
rule_here : (c : Bool) (m us v u : List Bool) → u ≡ us ++ v → zeros (drop (length us) m) ≡ true → c ⊕ odd m us ≡ c ⊕ odd m u
rule_here c m us v u e z = ap (λ (x : Bool). c ⊕ x) (sym (ap (odd m) e ∙ odd-early m us v [] z ∙ ap (odd m) (append-nil us)))

-- u is the bits so far and then v
onward : (us v u : List Bool) (b : Bool) → u ≡ us ++ b ∷ v → u ≡ (us ++ (b ∷ [])) ++ v
onward us v u b e = e ∙ sym (append_assoc us (b ∷ []) v)

early-next : (us : List Bool) (b : Bool) (ks : List Rule) → early (suc (length us)) ks ≡ true → early (length (us ++ (b ∷ []))) ks ≡ true
early-next us b ks h = rw (let e : length (us ++ (b ∷ [])) ≡ suc (length us) = simp length-append (omega arith) in e) h

-- a position that leaves no equation
pass : (es r es' : List Bool) → es' ≡ (es ++ []) ++ r → es' ≡ es ++ r
pass es r es' e = e ∙ ap (λ (l : List Bool). l ++ r) (append-nil es)

-- one that leaves the equation x, which is y
add : (es r es' : List Bool) (x y : Bool) → x ≡ y → es' ≡ (es ++ (x ∷ [])) ++ r → es' ≡ es ++ y ∷ r
add es r es' x y p e = e ∙ append_assoc es (x ∷ []) r ∙ ap (λ (z : Bool). es ++ z ∷ r) p

module _ (t : ℕ → Bool) where
  -- ---- how many

  -- the unknowns handed out
  pub walk_next : (ks : List Rule) (xs : List (Option Bool)) (s : Walk Bool) → (walk t ks xs s).next ≡ s.next + ones (open_free ks (map lost xs))
  walk_next [] xs s = sym (add-zero s.next)
  walk_next (k ∷ ks) [] s = sym (add-zero s.next)
  walk_next (free ∷ ks) (none ∷ xs) s = omega (arith, walk_next ks xs (step_at (bits t) free none s))
  walk_next (free ∷ ks) (some a ∷ xs) s = omega (arith, walk_next ks xs (step_at (bits t) free (some a) s))
  walk_next (frozen c m ∷ ks) (none ∷ xs) s = omega (arith, walk_next ks xs (step_at (bits t) (frozen c m) none s))
  walk_next (frozen c m ∷ ks) (some a ∷ xs) s = omega (arith, walk_next ks xs (step_at (bits t) (frozen c m) (some a) s))

  -- the equations left
  pub walk_many : (ks : List Rule) (xs : List (Option Bool)) (s : Walk Bool) → length (walk t ks xs s).eqs ≡ length s.eqs + ones (closed_frozen ks (map lost xs))
  walk_many [] xs s = sym (add-zero (length s.eqs))
  walk_many (k ∷ ks) [] s = sym (add-zero (length s.eqs))
  walk_many (free ∷ ks) (none ∷ xs) s = omega (arith, walk_many ks xs (step_at (bits t) free none s), length-append s.eqs [])
  walk_many (free ∷ ks) (some a ∷ xs) s = omega (arith, walk_many ks xs (step_at (bits t) free (some a) s), length-append s.eqs [])
  walk_many (frozen c m ∷ ks) (none ∷ xs) s = omega (arith, walk_many ks xs (step_at (bits t) (frozen c m) none s), length-append s.eqs [])
  walk_many (frozen c m ∷ ks) (some a ∷ xs) s =
      omega (arith, walk_many ks xs (step_at (bits t) (frozen c m) (some a) s), length-append s.eqs (eqs_at (bits t) (frozen c m) (some a) s.us))

  -- ---- what is read

  pub reads_agrees : (ks : List Rule) (xs : List (Option Bool)) (s : Walk Bool) → agrees_syms xs (reads t ks xs s) ≡ true
  reads_agrees ks [] s = refl
  reads_agrees [] (x ∷ xs) s = refl
  reads_agrees (k ∷ ks) (none ∷ xs) s = reads_agrees ks xs (step_at (bits t) k none s)
  reads_agrees (k ∷ ks) (some a ∷ xs) s = and_i _ _ (⊕-eq a a refl) (reads_agrees ks xs (step_at (bits t) k (some a) s))

  -- the bits of the open free positions are the next unknowns, in order
  abbrev Given : List Rule → List (Option Bool) → Walk Bool → Type 0
  Given ks xs s = picked (open_free ks (map lost xs)) (reads t ks xs s) ≡ tab (ones (open_free ks (map lost xs))) (λ (j : ℕ). t (s.next + j))

  pub reads_given : (ks : List Rule) (xs : List (Option Bool)) (s : Walk Bool) → Given ks xs s
  reads_given [] xs s = refl
  reads_given (k ∷ ks) [] s = refl
  reads_given (free ∷ ks) (none ∷ xs) s =
      let m = ones (open_free ks (map lost xs)) in
      rw (one-add m)
      (ap₂ {C = List Bool} ◌∷◌ (ap t (omega arith))
      (reads_given ks xs (step_at (bits t) free none s) ∙ tab_ext m (λ (j : ℕ). t (suc s.next + j)) (λ (j : ℕ). t (s.next + suc j)) (λ j. ap t (omega arith))))
  reads_given (free ∷ ks) (some a ∷ xs) s = rw zero-add (reads_given ks xs (step_at (bits t) free (some a) s))
  reads_given (frozen c m ∷ ks) (none ∷ xs) s = rw zero-add (reads_given ks xs (step_at (bits t) (frozen c m) none s))
  reads_given (frozen c m ∷ ks) (some a ∷ xs) s = rw zero-add (reads_given ks xs (step_at (bits t) (frozen c m) (some a) s))

  -- the open frozen positions keep their rules, and the closed ones leave their residuals
  abbrev Kept : List Rule → List (Option Bool) → Walk Bool → List Bool → Type 0
  Kept ks xs s u = (kept_open ks (map lost xs) u (reads t ks xs s) ≡ true) × ((walk t ks xs s).eqs ≡ s.eqs ++ residuals ks (map lost xs) u (reads t ks xs s))

  pub reads_kept : (ks : List Rule) (xs : List (Option Bool)) (s : Walk Bool) → early (length s.us) ks ≡ true → (u : List Bool) → u ≡ s.us ++ reads t ks xs s → Kept ks xs s u
  reads_kept [] xs s h u e = (refl, sym (append-nil s.eqs))
  reads_kept (k ∷ ks) [] s h u e = (refl, sym (append-nil s.eqs))
  reads_kept (free ∷ ks) (none ∷ xs) s h u e =
      let s' = step_at (bits t) free none s in
      let b = t s.next in
      let (p, q) = reads_kept ks xs s' (early-next s.us b ks h) u (onward s.us (reads t ks xs s') u b e) in
      (p, pass s.eqs (residuals ks (map lost xs) u (reads t ks xs s')) _ q)
  reads_kept (free ∷ ks) (some a ∷ xs) s h u e =
      let s' = step_at (bits t) free (some a) s in
      let (p, q) = reads_kept ks xs s' (early-next s.us a ks h) u (onward s.us (reads t ks xs s') u a e) in
      (p, pass s.eqs (residuals ks (map lost xs) u (reads t ks xs s')) _ q)
  reads_kept (frozen c m ∷ ks) (none ∷ xs) s h u e =
      let s' = step_at (bits t) (frozen c m) none s in
      let z = and_l (zeros (drop (length s.us) m)) _ h in
      let b = value_at (bits t) (frozen c m) none s.us s.next in
      let (p, q) = reads_kept ks xs s' (early-next s.us b ks (and_r (zeros (drop (length s.us) m)) _ h)) u (onward s.us (reads t ks xs s') u b e) in (
        and_i _ _ (⊕-eq b (c ⊕ odd m u) (rule_bit t c m s.us ∙ rule_here c m s.us (b ∷ reads t ks xs s') u e z)) p,
        pass s.eqs (residuals ks (map lost xs) u (reads t ks xs s')) _ q,
      )
  reads_kept (frozen c m ∷ ks) (some a ∷ xs) s h u e =
      let s' = step_at (bits t) (frozen c m) (some a) s in
      let z = and_l (zeros (drop (length s.us) m)) _ h in
      let (p, q) = reads_kept ks xs s' (early-next s.us a ks (and_r (zeros (drop (length s.us) m)) _ h)) u (onward s.us (reads t ks xs s') u a e) in
      let f : a ⊕ rule_value (bits t) c m s.us ≡ a ⊕ (c ⊕ odd m u) = ap (λ (x : Bool). a ⊕ x) (rule_bit t c m s.us ∙ rule_here c m s.us (a ∷ reads t ks xs s') u e z) in
      (p, add s.eqs (residuals ks (map lost xs) u (reads t ks xs s')) _ _ _ f q)
