-- A run of words, and room for their records.
--     run_words      the words of a run
--     choice_bytes   the bytes of a choice
--     Ready          what is known of a sheet, a choice and the room for a run
--     Filled         what is filled into the output, and how many bytes
use Rattle.std.specs.Prelude.{◌≡◌, ℕ, ◌*◌, ◌^◌, ◌≤◌, length, drop}
use mathlib.Core.List.{List, ◌++◌, flatten}
use Rattle.meaning.specs.Limits.{largest_n}
use Rattle.meaning.specs.Stream.{answer_bytes, n_of, records}

unfoldable pub run_words : ℕ
run_words = 32

unfoldable pub choice_bytes : ℕ
choice_bytes = 2

-- the sheet and the choice have a right length, and there is room for the words and the records of a run
pub record Ready (s ch : List ℕ) (run room : ℕ) : Type 0 where
  pub small : n_of s ≤ largest_n
  pub two : length ch ≡ 2
  pub words : run ≡ run_words * 2 ^ n_of s
  pub roomy : run_words * answer_bytes ≤ room

-- the output starts with the records of the words, of k bytes, and goes on as found
pub record Filled (s ch words found out : List ℕ) (k : ℕ) : Type 0 where
  pub bytes : k ≡ length (flatten (records s ch words))
  pub filled : out ≡ flatten (records s ch words) ++ drop k found
