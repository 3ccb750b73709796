-- From the contract of `eliminate` to the laws: what a caller has of the slices at exit.
--     determined      two results that the contract allows are equal: the answer and every word
--     shapes, fitting, all_fit     what it means that the shapes fit, and what makes it so
--     unfit           on a misfit nothing was changed
--     left            else the rows at exit are those of `solve`, and the answer is its rank
use mathlib.Core.Path.{◌≡◌, refl, sym, ap, ◌∙◌}
use Prim.Native.Nat.{ℕ, ◌*◌, ◌/◌, ◌%◌, ◌≤◌, ◌<◌}
use native.Mathlib.Omega.{arith}
use mathlib.Core.Bool.{Bool, true, false, ◌&&◌, not}
use lib.Dec.{eqb, ltb}
use mathlib.Core.List.{List, flatten}
use lib.ListN.{length}
use borrow.Author.Tests.{eqb-true, not-true, eqb-false, ltb-false, eq-eqb, ne_eqb, le-ltb}
use Rattle.bits.specs.Vectors.{pick}
use Rattle.bits.proofs.Tests.{and_l, and_r}
use Rattle.bits.specs.Rows.{Row, ◌⊻◌, rows_of, Wide}
use Rattle.gf2.specs.Solve.{solve, Done, done, fits, solved}
use Rattle.std.specs.Prelude.{Option, Some, None}
use Rattle.bits.proofs.RowXor.{length-⊻}
use Rattle.bits.proofs.RowLaws.{wide_rows, wide_at_lem, at_wide, rows_of-flatten, whole-rows}
use Rattle.gf2.proofs.Passes.{span, solve_sized}

-- two results of one call
pub determined : (c w : ℕ) (e r e₁ r₁ e₂ r₂ : List ℕ) (o₁ o₂ : Option ℕ) → done e₁ r₁ o₁ ≡ solved c w e r → done e₂ r₂ o₂ ≡ solved c w e r
    → (e₁ ≡ e₂) × (r₁ ≡ r₂) × (o₁ ≡ o₂)
determined c w e r e₁ r₁ e₂ r₂ o₁ o₂ p q =
    let s : done e₁ r₁ o₁ ≡ done e₂ r₂ o₂ = p ∙ sym q in
    (ap (λ (d : Done). d.eqs) s, ap (λ (d : Done). d.rest) s, ap (λ (d : Done). d.out) s)

-- the model keeps the width
pub solve-wide : (c w : ℕ) (e r : List Row) → Wide w e → Wide w r → Wide w (solve c e r).eqs × Wide w (solve c e r).rest
solve-wide c w e r he hr =
    let z = solve_sized c e r in
    let closed : (x y : Row) → length x ≡ w → length y ≡ w → length (x ⊻ y) ≡ w = λ x y p q. length-⊻ x y w p q in
    let o = span c e r (λ x. length x ≡ w) closed (λ j x. length x ≡ w) (λ j. closed) (wide_at_lem w e he) (wide_at_lem w r hr) in
    (at_wide w (solve c e r).eqs o.0, at_wide w (solve c e r).rest (λ i l. o.1 i (omega arith)))

-- what `fits` says
pub shapes : (c w : ℕ) (e r : List ℕ) → fits c w e r ≡ true → (w ≡ 0 → ⊥) × (c ≤ w) × (length e % w ≡ 0) × (length r % w ≡ 0)
unfolding fits
shapes c w e r h =
    let a = not (eqb w 0) in
    let b = not (ltb w c) in
    let d = eqb (length e % w) 0 in
    let f = eqb (length r % w) 0 in
    let g = and_l (a && b && d) f h in
    let k = and_l (a && b) d g in (
      eqb-false w 0 (not-true (eqb w 0) (and_l a b k)),
      ltb-false w c (not-true (ltb w c) (and_r a b k)),
      eqb-true (length e % w) 0 (and_r (a && b) d g),
      eqb-true (length r % w) 0 (and_r (a && b && d) f h),
    )

pub record Fitting (c w : ℕ) (e r : List ℕ) : Type 0 where
  pub width : 0 < w
  pub coeffs : c ≤ w
  pub eqs_len : length e ≡ length e / w * w
  pub rest_len : length r ≡ length r / w * w

pub fitting : (c w : ℕ) (e r : List ℕ) → fits c w e r ≡ true → Fitting c w e r
fitting c w e r h =
    let s = shapes c w e r h in
    let p = s.0 in
    record { width = omega arith; coeffs = s.1; eqs_len = whole-rows (length e) w s.2; rest_len = whole-rows (length r) w s.3 }

-- and what makes it so
pub all_fit : (c w : ℕ) (e r : List ℕ) → (w ≡ 0 → ⊥) → c ≤ w → length e % w ≡ 0 → length r % w ≡ 0 → fits c w e r ≡ true
unfolding fits
all_fit c w e r a b d h = rw (ne_eqb w 0 a, le-ltb w c b, eq-eqb (length e % w) 0 d, eq-eqb (length r % w) 0 h) refl

-- what a call leaves of slices that do not fit
pub unfit : (c w : ℕ) (e r e₁ r₁ : List ℕ) (o : Option ℕ) → fits c w e r ≡ false → done e₁ r₁ o ≡ solved c w e r → (e₁ ≡ e) × (r₁ ≡ r) × (o ≡ None)
unfolding solved
unfit c w e r e₁ r₁ o f h =
    let s = solve c (rows_of w e) (rows_of w r) in
    let g : done e₁ r₁ o ≡ done e r None = h ∙ ap (λ (b : Bool). pick b (done (flatten s.eqs) (flatten s.rest) (Some s.rank)) (done e r None)) f in
    (ap (λ (d : Done). d.eqs) g, ap (λ (d : Done). d.rest) g, ap (λ (d : Done). d.out) g)

-- what a call leaves of slices that fit
pub record Left (c w : ℕ) (e r e₁ r₁ : List ℕ) (o : Option ℕ) : Type 0 where
  pub eqs_are : rows_of w e₁ ≡ (solve c (rows_of w e) (rows_of w r)).eqs
  pub rest_are : rows_of w r₁ ≡ (solve c (rows_of w e) (rows_of w r)).rest
  pub rank_is : o ≡ Some (solve c (rows_of w e) (rows_of w r)).rank

pub left : (c w : ℕ) (e r e₁ r₁ : List ℕ) (o : Option ℕ) → fits c w e r ≡ true → done e₁ r₁ o ≡ solved c w e r → Left c w e r e₁ r₁ o
unfolding solved
left c w e r e₁ r₁ o f h =
    let F = fitting c w e r f in
    let s = solve c (rows_of w e) (rows_of w r) in
    let t : Done = done (flatten s.eqs) (flatten s.rest) (Some s.rank) in
    let g : done e₁ r₁ o ≡ t = h ∙ ap (λ (b : Bool). pick b t (done e r None)) f in
    let he = wide_rows w (length e / w) e (omega (arith, F.eqs_len)) in
    let hr = wide_rows w (length r / w) r (omega (arith, F.rest_len)) in
    let (we, wr) = solve-wide c w (rows_of w e) (rows_of w r) he hr in
    record {
      eqs_are = ap (λ (d : Done). rows_of w d.eqs) g ∙ rows_of-flatten w s.eqs F.width we;
      rest_are = ap (λ (d : Done). rows_of w d.rest) g ∙ rows_of-flatten w s.rest F.width wr;
      rank_is = ap (λ (d : Done). d.out) g;
    }
