-- What `counting` comes to, by the test of the lengths.
use mathlib.Core.Path.{◌≡◌, sym, ◌∙◌}
use Prim.Native.Nat.{ℕ}
use mathlib.Core.Bool.{Bool, true, not}
use mathlib.Core.List.{List}
use lib.ListN.{length}
use borrow.Author.Tests.{not-true}
use Rattle.meaning.specs.Sheet.{rules}
use Rattle.meaning.specs.Open.{unknowns}
use Rattle.sheet.specs.Shapes.{shaped}
use Rattle.counting.specs.Counting.{counting}

module _ (n : ℕ) (s w : List ℕ) {t : Bool} (p : t ≡ shaped n (length s) (length w)) where
  pub counting-none : not t ≡ true → counting n s w ≡ 0
  unfolding counting
  counting-none q = rw (sym p ∙ not-true t q)

  pub counting-all : t ≡ true → counting n s w ≡ unknowns n (rules n s) w
  unfolding counting
  counting-all q = rw (sym p ∙ q)
