-- A record read back.
--     numbers_in r      its five numbers
--     strips_in n r     its three strips, without what fills them up
use Rattle.std.specs.Prelude.{ℕ, ◌+◌, ◌*◌, ◌^◌, take, drop}
use mathlib.Core.List.{List, flatten}
use Rattle.bits.specs.Vectors.{tab}
use Rattle.meaning.specs.Limits.{head_bytes, strip_width}
use Rattle.meaning.specs.Stream.{number_at}

unfoldable pub numbers_in : List ℕ → List ℕ
numbers_in r = tab 5 (λ (i : ℕ). number_at r (2 * i))

unfoldable pub strips_in : ℕ → List ℕ → List ℕ
strips_in n r = flatten (tab 3 (λ (i : ℕ). take (2 ^ n) (drop (head_bytes + i * strip_width) r)))
