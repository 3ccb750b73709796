-- The words of the room for a strip's rows. A row has a word for each 64 unknowns, one that may be empty, one for the constant of all lanes, and eight for the lanes.
--     most_wide      of one row with the most unknowns
--     most_words     of the rows of the largest N, the longest check and the most unknowns
use Rattle.std.specs.Prelude.{ℕ, ◌+◌, ◌*◌, ◌/◌, ◌^◌}
use Rattle.meaning.specs.Limits.{largest_n, largest_ceiling}
use Rattle.system.specs.Solving.{longest_check}

unfoldable pub most_wide : ℕ
most_wide = largest_ceiling / 64 + 10

unfoldable pub most_words : ℕ
most_words = (2 ^ largest_n + longest_check) * most_wide
