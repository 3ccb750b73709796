-- Law 1: elimination changes no solution, for any form on rows that takes XOR to XOR.
--     same_solutions       a form is 0 on all equations after just where it is on all before
--     rest-same_values     where it is, each row of the second slice keeps its value
use mathlib.Core.Path.{◌≡◌, refl, sym, ap, ap₂, ◌∙◌}
use Prim.Native.Nat.{ℕ, ◌<◌}
use mathlib.Core.Bool.{Bool, false, true, not}
use mathlib.Core.List.{List, []}
use lib.ListN.{length}
use borrow.Author.Tests.{not-true}
use Rattle.bits.specs.Vectors.{◌⊕◌}
use Rattle.bits.proofs.Xor.{⊕-false}
use Rattle.bits.proofs.Tests.{bool_ext, all-at, at_all}
use Rattle.bits.specs.Rows.{Row, ◌⊻◌, at}
use Rattle.gf2.specs.Solve.{solve}
use Rattle.gf2.specs.System.{Each, Hom, vanishes}
use Rattle.gf2.proofs.Passes.{span, back}

module _ (Λ : Row → Bool) where
  -- Λ is 0 on row x
  abbrev Zero : Row → Type 0
  Zero x = Λ x ≡ false

  pub vanishes-at : (e : List Row) → vanishes Λ e ≡ true → Each (λ x. Λ x ≡ false) e
  vanishes-at e h i l = not-true (Λ (at e i)) (all-at (λ (x : Row). not (Λ x)) [] e h i l)

  at-vanishes : (e : List Row) → Each (λ x. Λ x ≡ false) e → vanishes Λ e ≡ true
  at-vanishes e h = at_all (λ (x : Row). not (Λ x)) [] e (λ i l. ap not (h i l))

module _ (c : ℕ) (e r : List Row) (Λ : Row → Bool) (hom : Hom Λ) where
  zero-sum : (x y : Row) → Zero Λ x → Zero Λ y → Zero Λ (x ⊻ y)
  zero-sum x y p q = hom x y ∙ ap₂ ◌⊕◌ p q

  zero_term : (x y : Row) → Zero Λ (x ⊻ y) → Zero Λ y → Zero Λ x
  zero_term x y p q = sym (⊕-false (Λ x)) ∙ ap (λ (b : Bool). Λ x ⊕ b) (sym q) ∙ sym (hom x y) ∙ p

  pub same_solutions : vanishes Λ e ≡ vanishes Λ (solve c e r).eqs
  same_solutions =
      bool_ext (vanishes Λ e) (vanishes Λ (solve c e r).eqs)
      (λ h. at-vanishes Λ (solve c e r).eqs (span c e r (Zero Λ) zero-sum (λ j x. Unit {0}) (λ j x y p q. tt) (vanishes-at Λ e h) (λ j l. tt)).0)
      (λ h. at-vanishes Λ e (back c e r (Zero Λ) zero-sum zero_term (vanishes-at Λ (solve c e r).eqs h)))

  pub rest-same_values : vanishes Λ e ≡ true → (j : ℕ) → j < length r → Λ (at (solve c e r).rest j) ≡ Λ (at r j)
  rest-same_values h =
      (span c e r (Zero Λ) zero-sum (λ j x. Λ x ≡ Λ (at r j)) (λ j x y p q. hom x y ∙ ap₂ ◌⊕◌ p q ∙ ⊕-false (Λ (at r j))) (vanishes-at Λ e h) (λ j l. refl)).1
