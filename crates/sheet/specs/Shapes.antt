-- The lengths that n asks for.
--     positions n            N, 2 ^ n; 0 where n is above the largest
--     recorded n sheet       a sheet of this length has N records
--     shaped n sheet word    and a word of this length has N symbols
use Rattle.std.specs.Prelude.{ℕ, ◌*◌, ◌^◌, Bool, ◌&&◌, eqb, leb}
use Rattle.bits.specs.Vectors.{pick}
use Rattle.meaning.specs.Limits.{largest_n, record_bytes}

unfoldable pub positions : ℕ → ℕ
positions n = pick (leb n largest_n) (2 ^ n) 0

unfoldable pub recorded : ℕ → ℕ → Bool
recorded n sheet = leb n largest_n && eqb sheet (2 ^ n * record_bytes)

unfoldable pub shaped : ℕ → ℕ → ℕ → Bool
shaped n sheet word = recorded n sheet && eqb word (2 ^ n)
