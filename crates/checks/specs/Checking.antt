-- What `check_rows` promises. A sheet of N = 2 ^ n records, N rows of u, and a list of equations, all rows of w words.
--     check_fits           whether all that is handed over fits together
--     Checked, checked    an answer, and what the list of equations holds
--     check_of             the rows of the check
--     checking            the answer and the list after the call
use Rattle.std.specs.Prelude.{ℕ, ◌+◌, ◌*◌, ◌^◌, Bool, true, false, ◌&&◌, length, take, drop, eqb, leb, ltb}
use mathlib.Core.List.{List, ◌++◌, flatten}
use Rattle.bits.specs.Vectors.{pick}
use Rattle.bits.specs.Rows.{Row, rows}
use Rattle.meaning.specs.Sheet.{rules}
use Rattle.meaning.specs.Answers.{check_length}
use Rattle.sheet.specs.Shapes.{recorded}
use Rattle.model.specs.Model.{checks}
use Rattle.model.specs.RowValues.{row_values}
use Rattle.descent.specs.Descending.{widest}

-- ---- what fits together, by its lengths

-- a row has a word for the constant, and r rows behind the first m lie within the list
unfoldable pub spaced : ℕ → ℕ → ℕ → ℕ → ℕ → Bool
spaced r c w m eqs = leb w widest && (ltb c w && leb ((m + r) * w) eqs)

unfoldable pub check_fits : ℕ → ℕ → ℕ → ℕ → ℕ → ℕ → ℕ → ℕ → Bool
check_fits n sheet r c w us m eqs = recorded n sheet && (check_length r && (spaced r c w m eqs && eqb us (2 ^ n * w)))

-- ---- the promise

pub record Checked : Type 0 where
  pub answer : Bool
  pub eqs : List ℕ

abbrev pub checked : Bool → List ℕ → Checked
checked a eqs = record { answer = a; eqs = eqs }

-- the check over rows
abbrev pub check_of : ℕ → List ℕ → ℕ → ℕ → ℕ → List ℕ → List Row
check_of n sheet r c w us = checks (row_values c w) r (rules n sheet) (rows w (2 ^ n) us)

-- the check's rows stand behind the first m; what does not fit leaves the list as found
unfoldable pub checking : ℕ → List ℕ → ℕ → ℕ → ℕ → List ℕ → ℕ → List ℕ → Checked
checking n sheet r c w us m eqs =
    pick (check_fits n (length sheet) r c w (length us) m (length eqs))
    (checked true (take (m * w) eqs ++ flatten (check_of n sheet r c w us) ++ drop ((m + r) * w) eqs))
    (checked false eqs)
