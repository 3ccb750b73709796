-- Law 4: where an identity rides along, each row says which given equations it is the sum of.
-- Bit o + k of a row marks equation k: equation i is given with bit o + i alone, the rows of the rest with none of them.
--     eqs_made      each equation after is the sum of the given equations that it marks
--     rest_made     each row of the rest is the given row and the sum of the given equations that it marks
use mathlib.Core.Path.{◌≡◌, refl, sym, ap, ap₂, ◌∙◌}
use Prim.Native.Nat.{ℕ, zero, suc, ◌+◌, ◌<◌}
use native.Mathlib.Omega.{arith}
use mathlib.Core.Bool.{Bool, true, false}
use mathlib.Core.List.{List, [], ◌∷◌}
use lib.ListN.{length, length-replicate}
use lib.Dec.{eqb, eqb-zero-suc, eqb-suc-zero, eqb-suc-suc}
use Rattle.bits.specs.Vectors.{◌⊕◌, pick}
use Rattle.bits.specs.Rows.{Row, ◌⊻◌, at, Wide, nought_row}
use Rattle.gf2.specs.Solve.{solve}
use Rattle.gf2.specs.System.{Each, sum_of, marks}
use Rattle.bits.proofs.RowXor.{⊻-comm, ⊻-assoc, length-⊻, nought-⊻, ⊻-left-comm, ⊻-self, has-⊻}
use Rattle.bits.proofs.RowLaws.{wide_at_lem}
use Rattle.gf2.proofs.Passes.{span}

-- ---- sums of some of the rows

length-sum_of : (w : ℕ) (e : List Row) (f : ℕ → Bool) → Wide w e → length (sum_of w e f) ≡ w
unfolding sum_of
length-sum_of w [] f h = length-replicate w 0
length-sum_of w (x ∷ e) f (n, h) = go (f 0) (length-sum_of w e (λ (k : ℕ). f (suc k)) h)
  where
    go : (b : Bool) → length (sum_of w e (λ (k : ℕ). f (suc k))) ≡ w → length (pick b (x ⊻ sum_of w e (λ (k : ℕ). f (suc k))) (sum_of w e (λ (k : ℕ). f (suc k)))) ≡ w
    go true q = length-⊻ x (sum_of w e (λ (k : ℕ). f (suc k))) w n q
    go false q = q

sum_of_ext : (w : ℕ) (e : List Row) (f g : ℕ → Bool) → ((k : ℕ) → k < length e → f k ≡ g k) → sum_of w e f ≡ sum_of w e g
unfolding sum_of
sum_of_ext w [] f g h = refl
sum_of_ext w (x ∷ e) f g h = ap₂ (λ (b : Bool) (s : Row). pick b (x ⊻ s) s) (h 0 (omega arith)) (sum_of_ext w e (λ (k : ℕ). f (suc k)) (λ (k : ℕ). g (suc k)) (λ k l. h (suc k) (omega arith)))

sum_of-none : (w : ℕ) (e : List Row) → sum_of w e (λ (k : ℕ). false) ≡ nought_row w
unfolding sum_of
sum_of-none w [] = refl
sum_of-none w (x ∷ e) = sum_of-none w e

-- the sum of two sums
sum_of-⊻ : (w : ℕ) (e : List Row) (f g : ℕ → Bool) → Wide w e → sum_of w e f ⊻ sum_of w e g ≡ sum_of w e (λ (k : ℕ). f k ⊕ g k)
unfolding sum_of
sum_of-⊻ w [] f g h = nought-⊻ w (nought_row w) (length-replicate w 0)
sum_of-⊻ w (x ∷ e) f g (n, h) =
    go (f 0) (g 0) (sum_of w e (λ (k : ℕ). f (suc k))) (sum_of w e (λ (k : ℕ). g (suc k))) (sum_of w e (λ (k : ℕ). f (suc k) ⊕ g (suc k)))
    (sum_of-⊻ w e (λ (k : ℕ). f (suc k)) (λ (k : ℕ). g (suc k)) h)
    (length-sum_of w e (λ (k : ℕ). f (suc k) ⊕ g (suc k)) h)
  where
    go : (a b : Bool) (s t u : Row) → s ⊻ t ≡ u → length u ≡ w → pick a (x ⊻ s) s ⊻ pick b (x ⊻ t) t ≡ pick (a ⊕ b) (x ⊻ u) u
    go true true s t u q m =
        ⊻-assoc x s (x ⊻ t) ∙ ap (λ (v : Row). x ⊻ v) (⊻-left-comm s x t) ∙ sym (⊻-assoc x x (s ⊻ t)) ∙ ap₂ ◌⊻◌ (⊻-self x w n) q ∙ nought-⊻ w u m
    go true false s t u q m = ⊻-assoc x s t ∙ ap (λ (v : Row). x ⊻ v) q
    go false true s t u q m = ⊻-left-comm s x t ∙ ap (λ (v : Row). x ⊻ v) q
    go false false s t u q m = q

-- one row alone
sum_of_one : (w : ℕ) (e : List Row) (i : ℕ) → Wide w e → i < length e → sum_of w e (eqb i) ≡ at e i
unfolding sum_of
sum_of_one w [] i h l = absurd (omega arith)
sum_of_one w (x ∷ e) zero (n, h) l =
    ap (λ (s : Row). x ⊻ s) (sum_of_ext w e (λ (k : ℕ). eqb 0 (suc k)) (λ (k : ℕ). false) (λ k m. eqb-zero-suc k) ∙ sum_of-none w e)
    ∙ ⊻-comm x (nought_row w) ∙ nought-⊻ w x n
sum_of_one w (x ∷ e) (suc i) (n, h) l =
    rw (eqb-suc-zero i) (sum_of_ext w e (λ (k : ℕ). eqb (suc i) (suc k)) (eqb i) (λ k m. eqb-suc-suc i k) ∙ sum_of_one w e i h (omega arith))

-- ---- the law

module _ (c w o : ℕ) (e r : List Row) (we : Wide w e)
    (ones : (i k : ℕ) → i < length e → k < length e → marks o (at e i) k ≡ eqb i k) where
  abbrev Made : Row → Type 0
  Made x = (length x ≡ w) × (x ≡ sum_of w e (marks o x))

  made_add : (x y : Row) → Made x → Made y → Made (x ⊻ y)
  made_add x y (lx, p) (ly, q) = (
    length-⊻ x y w lx ly,
    ap₂ ◌⊻◌ p q ∙ sum_of-⊻ w e (marks o x) (marks o y) we ∙ sum_of_ext w e (λ (k : ℕ). marks o x k ⊕ marks o y k) (marks o (x ⊻ y)) (λ k l. sym (has-⊻ (o + k) x y)),
  )

  given : Each Made e
  given i l = (wide_at_lem w e we i l, sym (sum_of_ext w e (marks o (at e i)) (eqb i) (λ k m. ones i k l m) ∙ sum_of_one w e i we l))

  -- each equation after is the sum of those given that its bits name
  pub eqs_made : (i : ℕ) → i < length (solve c e r).eqs → at (solve c e r).eqs i ≡ sum_of w e (marks o (at (solve c e r).eqs i))
  eqs_made i l = ((span c e r Made made_add (λ j x. Unit {0}) (λ j x y p q. tt) given (λ j m. tt)).0 i l).1

  -- each row of the rest is the row given with the sum of those that its bits name
  pub rest_made : Wide w r → ((j k : ℕ) → j < length r → k < length e → marks o (at r j) k ≡ false)
      → (j : ℕ) → j < length r → at (solve c e r).rest j ≡ at r j ⊻ sum_of w e (marks o (at (solve c e r).rest j))
  rest_made wr clean j l =
      ((span c e r Made made_add (λ i x. (length x ≡ w) × (x ≡ at r i ⊻ sum_of w e (marks o x)))
      (λ i x y (lx, p) (ly, q). (
        length-⊻ x y w lx ly,
        ap₂ ◌⊻◌ p q ∙ ⊻-assoc (at r i) (sum_of w e (marks o x)) (sum_of w e (marks o y))
            ∙ ap (λ (v : Row). at r i ⊻ v) (sum_of-⊻ w e (marks o x) (marks o y) we ∙ sum_of_ext w e (λ (k : ℕ). marks o x k ⊕ marks o y k) (marks o (x ⊻ y)) (λ k m. sym (has-⊻ (o + k) x y))),
      ))
      given
      (λ i m.
      let none : sum_of w e (marks o (at r i)) ≡ nought_row w = sum_of_ext w e (marks o (at r i)) (λ (k : ℕ). false) (λ k n. clean i k m n) ∙ sum_of-none w e in
      let l = wide_at_lem w r wr i m in
      (l, sym (ap (λ (v : Row). at r i ⊻ v) none ∙ ⊻-comm (at r i) (nought_row w) ∙ nought-⊻ w (at r i) l)))
      ).1 j l).1
