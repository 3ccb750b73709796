-- The count of the unknowns by halves, on the symbols of a word: above 1 means erased.
--     Spread                what is erased for both halves: l and r before, l' and r' after
--     rules_from             the rules of the m positions from `at` on
--     open_one, open_frees    how many open free positions one position has, and a block whose first position is `at`
use Rattle.std.specs.Prelude.{◌≡◌, ℕ, ◌+◌, List, map, length}
use Rattle.bits.specs.Vectors.{bit, tab, ones}
use Rattle.meaning.specs.Sheet.{Rule, free, frozen, rule_at}
use Rattle.meaning.specs.Codewords.{erased}
use Rattle.meaning.specs.Open.{either, both, opens, open_free}

-- the left half l' is erased where one of l and r was, the right half r' where both were
pub record Spread (l r l' r' : List ℕ) : Type 0 where
  pub left : map erased l' ≡ either (map erased l) (map erased r)
  pub right : map erased r' ≡ both (map erased l) (map erased r)

abbrev pub open_one : Rule → ℕ → ℕ
open_one free s = bit (erased s)
open_one (frozen b m) s = 0

abbrev pub rules_from : List ℕ → ℕ → ℕ → List Rule
rules_from sheet at m = tab m (λ (j : ℕ). rule_at sheet (at + j))

unfoldable pub open_frees : List ℕ → ℕ → ℕ → List ℕ → ℕ
open_frees sheet at k marks = ones (open_free (rules_from sheet at (length marks)) (opens k (map erased marks)))
