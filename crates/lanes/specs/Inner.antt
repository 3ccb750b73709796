-- The steps of `conclude`.
--     common_word c x, LaneWord c k x r     the constant that all lanes have in common, in each bit; r has the constants of lanes 64 k to 64 k + 63
--     lane_in b t                           whether lane t is one of those that eight words say
--     Added, Collected                      the lanes of a row are added; those of all rows with no coefficient are there
--     record_rows                           the records of the first n rows of a list of words
use Rattle.std.specs.Prelude.{◌≡◌, ℕ, ◌+◌, ◌*◌, ◌/◌, ◌%◌, ◌<◌, Bool, not, ◌||◌, get_or}
use mathlib.Core.List.{List, flatten}
use Rattle.bits.specs.Vectors.{pick, tab}
use Rattle.bits.specs.Words.{has_bit, full}
use Rattle.bits.specs.Rows.{Row, row, has}
use Rattle.gf2.specs.System.{consistent}
use Rattle.lanes.specs.Lanes.{lane_constant, row_record}

-- ---- one row

abbrev pub common_word : ℕ → Row → ℕ
common_word c x = pick (has (64 * c) x) full 0

pub record LaneWord (c k : ℕ) (x : Row) (r : ℕ) : Type 0 where
  pub bits : (j : ℕ) → j < 64 → has_bit r j ≡ lane_constant c (64 * k + j) x

-- ---- lanes

abbrev pub lane_in : List ℕ → ℕ → Bool
lane_in b t = has_bit (get_or b (t / 64) 0) (t % 64)

pub record Added (c : ℕ) (x : Row) (b b' : List ℕ) : Type 0 where
  pub lane : (t : ℕ) → t < 512 → lane_in b' t ≡ lane_in b t || lane_constant c t x

pub record Collected (c : ℕ) (e : List Row) (b : List ℕ) : Type 0 where
  pub lane : (t : ℕ) → t < 512 → lane_in b t ≡ not (consistent c (lane_constant c t) e)

-- ---- records

unfoldable pub record_rows : ℕ → ℕ → List ℕ → ℕ → List ℕ
record_rows c w l n = flatten (tab n (λ (j : ℕ). row_record c (row w l j)))
