-- The words of the room for a word's rows.
--     most_wide      of one row with the most unknowns
--     most_words     of the rows of the largest N and the most unknowns
use Rattle.std.specs.Prelude.{ℕ, ◌+◌, ◌*◌, ◌/◌, ◌^◌}
use Rattle.meaning.specs.Limits.{largest_n, largest_ceiling}

-- a word for each 64 unknowns, one that may be empty, and one for the constant
unfoldable pub most_wide : ℕ
most_wide = largest_ceiling / 64 + 2

unfoldable pub most_words : ℕ
most_words = 2 ^ largest_n * most_wide
