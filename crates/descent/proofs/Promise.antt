-- What the promise of `descend` comes to.
--     misfit, over, found_all     its three cases, in the values that the code has by then
--     allowed                     what the descent asks, where all fits
--     only_one                    any two results that it allows are equal
--     Told, done-tells            what a caller has after Ok: the slices as the model's rows
use mathlib.Core.Path.{◌≡◌, refl, sym, ap, ap₂, ◌∙◌}
use Prim.Native.Nat.{ℕ, ◌-◌, ◌*◌, ◌^◌, ◌≤◌, ◌<◌}
use native.Mathlib.Omega.{arith}
use mathlib.Core.Bool.{Bool, true, false, not}
use mathlib.Core.List.{List, ◌++◌, flatten}
use lib.ListN.{length, replicate}
use lib.Dec.{ltb}
use Rattle.std.specs.Prelude.{Result, Ok, Err}
use borrow.Author.Tests.{lt-ltb, le-ltb, ltb-false, not-true, not-false}
use Rattle.bits.specs.Vectors.{pick}
use Rattle.bits.specs.Rows.{Row, row, rows}
use Rattle.bits.proofs.Tests.{and_l}
use Rattle.bits.proofs.RowLaws.{length_part, row_fit, rows-flatten, rows_front}
use Rattle.meaning.specs.Sheet.{rule_at, rules}
use Rattle.meaning.specs.Open.{unknowns}
use Rattle.counting.specs.Counting.{counting}
use Rattle.counting.proofs.Lengths.{counting-all}
use Rattle.model.specs.Model.{Out}
use Rattle.model.proofs.RowValues.{rows-wide, rows_sizes}
use Rattle.descent.specs.Descending.{fitting, Outcome, descended, found, written, descending, Ready, Filled}
use Rattle.descent.specs.declared.Found.{Found}
use Rattle.descent.specs.declared.Stop.{Stop}
use Rattle.descent.specs.declared.Stop.TheVariants.{Misfit, Over}
use Rattle.descent.proofs.Fitting.{fitting-true}

-- ---- its three cases

module _ (n : ℕ) (sheet word : List ℕ) (most c w : ℕ) (vals us eqs : List ℕ) {t : Bool} (p : t ≡ fitting n (length sheet) (length word) most c w (length vals) (length us) (length eqs)) where
  pub misfit : not t ≡ true → descended (Err Misfit) vals us eqs ≡ descending n sheet word most c w vals us eqs
  unfolding descending
  misfit h = rw (sym p ∙ not-true t h)

  module _ (h : not t ≡ false) (g : ℕ) (e : g ≡ counting n sheet word) where
    fits : fitting n (length sheet) (length word) most c w (length vals) (length us) (length eqs) ≡ true
    fits = sym p ∙ not-false t h

    number : g ≡ unknowns n (rules n sheet) word
    unfolding fitting
    number = e ∙ counting-all n sheet word refl (and_l _ _ fits)

    pub over : most < g → descended (Err (Over g)) vals us eqs ≡ descending n sheet word most c w vals us eqs
    unfolding descending
    over q = rw (fits, ← number, lt-ltb most g q)

    -- what the descent asks
    pub allowed : g ≤ most → Ready n (length sheet) (length word) c w (length vals) (length us) (length eqs) × (unknowns n (rules n sheet) word ≤ 64 * c)
    allowed q =
        let (r, k) = fitting-true n (length sheet) (length word) most c w (length vals) (length us) (length eqs) fits in
        (r, omega (arith, number))

    pub found_all : g ≤ most → (v u es : List ℕ) (m : ℕ) → Filled (length eqs) w (found n sheet word c w vals) v u es m
        → descended (Ok (record { g = g; m = m })) v u es ≡ descending n sheet word most c w vals us eqs
    unfolding descending
    found_all q v u es m f = rw (fits, ← number, le-ltb most g q) (λ i. record { answer = Ok (record { g = g; m = f.many i }); vals = f.vals i; us = f.us i; eqs = last i })
      where
        last : es ≡ flatten (found n sheet word c w vals).after.eqs ++ replicate (length eqs - length (found n sheet word c w vals).after.eqs * w) 0
        last = f.eqs ∙ ap (λ (k : ℕ). flatten (found n sheet word c w vals).after.eqs ++ replicate (length eqs - k * w) 0) f.many

-- ---- one result

pub only_one : (a b : Result Found Stop) (v u e v' u' e' : List ℕ) (meant : Outcome) → descended a v u e ≡ meant → descended b v' u' e' ≡ meant → (a ≡ b) × (v ≡ v') × (u ≡ u') × (e ≡ e')
only_one a b v u e v' u' e' meant p q =
    let s : descended a v u e ≡ descended b v' u' e' = p ∙ sym q in
    (ap (λ (o : Outcome). o.answer) s, ap (λ (o : Outcome). o.vals) s, ap (λ (o : Outcome). o.us) s, ap (λ (o : Outcome). o.eqs) s)

-- ---- after Ok

pub record Told (n : ℕ) (sheet word : List ℕ) (most c w : ℕ) (vals us eqs : List ℕ) (g m : ℕ) (v u e : List ℕ) : Type 0 where
  pub fit : Ready n (length sheet) (length word) c w (length vals) (length us) (length eqs)
  pub unknown : g ≡ unknowns n (rules n sheet) word
  pub few : g ≤ most
  pub room : most ≤ 64 * c
  pub many : m ≡ length (found n sheet word c w vals).after.eqs
  pub block : rows w (2 ^ n) v ≡ (found n sheet word c w vals).block
  pub rows_u : rows w (2 ^ n) u ≡ (found n sheet word c w vals).after.us
  pub rows_e : rows w m e ≡ (found n sheet word c w vals).after.eqs
  pub all_u : u ≡ flatten (found n sheet word c w vals).after.us
  pub all_e : e ≡ flatten (found n sheet word c w vals).after.eqs ++ replicate (length eqs - m * w) 0

module _ (n : ℕ) (sheet word : List ℕ) (most c w : ℕ) (vals us eqs : List ℕ) (g m : ℕ) (v u e : List ℕ) where
  abbrev G : ℕ
  G = unknowns n (rules n sheet) word

  abbrev O : Out Row
  O = found n sheet word c w vals

  -- the lists that the definition gives for Ok
  tells : Ready n (length sheet) (length word) c w (length vals) (length us) (length eqs) → G ≤ most → most ≤ 64 * c
      → descended (Ok (record { g = g; m = m })) v u e ≡ written (length eqs) G w O → Told n sheet word most c w vals us eqs g m v u e
  tells R h k q =
      let (sb, su) = rows_sizes c w (rule_at sheet) n word (row w vals) R.symbols in
      let (wb, wu, we) = rows-wide c w (rule_at sheet) n word (row w vals)
      (λ j p. let f = row_fit j (length word) w p in length_part vals (j * w) w (omega (arith, R.rows_v, ap (λ (k : ℕ). k * w) R.symbols))) in
      let a = ap (λ (r : Outcome). r.answer) q in
      let f : ◌≡◌ {A = Found} (record { g = g; m = m }) (record { g = G; m = length O.after.eqs }) = cc in
      let eg : g ≡ G = ap (λ (f : Found). f.g) f in
      let em : m ≡ length O.after.eqs = ap (λ (f : Found). f.m) f in
      let eu = ap (λ (r : Outcome). r.us) q in
      let ee = ap (λ (r : Outcome). r.eqs) q in
      record {
        fit = R;
        unknown = eg;
        few = omega arith;
        room = k;
        many = em;
        block = ap₂ (rows w) (sym sb) (ap (λ (r : Outcome). r.vals) q) ∙ rows-flatten w O.block wb;
        rows_u = ap₂ (rows w) (sym su) eu ∙ rows-flatten w O.after.us wu;
        rows_e = ap₂ (rows w) em ee ∙ rows_front w O.after.eqs (replicate (length eqs - length O.after.eqs * w) 0) we;
        all_u = eu;
        all_e = ee ∙ ap (λ (j : ℕ). flatten O.after.eqs ++ replicate (length eqs - j * w) 0) (sym em);
      }

  pub done-tells : descended (Ok (record { g = g; m = m })) v u e ≡ descending n sheet word most c w vals us eqs → Told n sheet word most c w vals us eqs g m v u e
  unfolding descending
  done-tells p = go (fitting n (length sheet) (length word) most c w (length vals) (length us) (length eqs)) (ltb most G) refl refl p
    where
      go : (a b : Bool) → fitting n (length sheet) (length word) most c w (length vals) (length us) (length eqs) ≡ a → ltb most G ≡ b
          → descended (Ok (record { g = g; m = m })) v u e ≡ pick a (pick b (descended (Err (Over G)) vals us eqs) (written (length eqs) G w O)) (descended (Err Misfit) vals us eqs)
          → Told n sheet word most c w vals us eqs g m v u e
      go false b f t q = let r = ap (λ (o : Outcome). o.answer) q in let z : ◌≡◌ {A = ℕ} 0 1 = cc in absurd (omega arith)
      go true true f t q = let r = ap (λ (o : Outcome). o.answer) q in let z : ◌≡◌ {A = ℕ} 0 1 = cc in absurd (omega arith)
      go true false f t q =
          let (r, k) = fitting-true n (length sheet) (length word) most c w (length vals) (length us) (length eqs) f in
          tells r (ltb-false most G t) k q
