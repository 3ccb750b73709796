-- What `rule_row` promises, and the search for the positions that a record names.
--     fitting     whether a row, the rows of the positions before `at`, and record `at` are there
--     ruled       the list with the row that the rule of `at` says at place `to`; as it was where these are not there
--     Gap s i j k record i names none of the k positions below j, and the one below them where that is in the same word of 64
use Rattle.std.specs.Prelude.{◌≡◌, ℕ, suc, ◌+◌, ◌-◌, ◌*◌, ◌%◌, ◌<◌, ◌≤◌, Bool, true, false, ◌&&◌, List, length, eqb, leb, ltb}
use Rattle.std.proofs.Math.Seq.{paste}
use Rattle.bits.specs.Vectors.{pick}
use Rattle.bits.specs.Rows.{rows}
use Rattle.meaning.specs.Limits.{record_bytes, mask_bytes}
use Rattle.meaning.specs.Sheet.{byte, names, mask}
use Rattle.model.specs.Model.{rule_value}
use Rattle.model.specs.RowValues.{row_values}

-- by the lengths of the list, of the rows and of the sheet
unfoldable pub fitting : ℕ → ℕ → ℕ → ℕ → ℕ → ℕ → ℕ → Bool
fitting d to us sheet at c w = ltb c w && (ltb at (8 * mask_bytes) && (leb ((at + 1) * record_bytes) sheet && (leb (at * w) us && leb (to + w) d)))

unfoldable pub ruled : List ℕ → ℕ → List ℕ → List ℕ → ℕ → ℕ → ℕ → List ℕ
ruled d to us sheet at c w =
    pick (fitting (length d) to (length us) (length sheet) at c w) (paste d to (rule_value (row_values c w) (eqb (byte sheet at 1) 1) (mask sheet at) (rows w at us)) w) d

pub record Gap (s : List ℕ) (i j k : ℕ) : Type 0 where
  pub within : k ≤ suc ((j - 1) % 64)
  pub unnamed : (t : ℕ) → t < k → names s i (j - suc t) ≡ false
  pub found : k ≤ (j - 1) % 64 → names s i (j - suc k) ≡ true
