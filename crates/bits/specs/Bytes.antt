-- What a word of bytes says.
--     Holds n s at r    r has the bits of n bytes from `at` on, the lowest first
--     EightOf s at r    r is the word of the eight bytes from `at` on, or 0 where they do not lie within s
use Rattle.std.specs.Prelude.{◌≡◌, ℕ, ◌+◌, ◌*◌, ◌/◌, ◌%◌, ◌^◌, ◌<◌, true, false, List, length, get_or}
use Rattle.bits.specs.Words.{has_bit}
use Rattle.bits.specs.Rows.{lies}

pub record Holds (n : ℕ) (s : List ℕ) (at r : ℕ) : Type 0 where
  pub bits : (j : ℕ) → j < 8 * n → has_bit r j ≡ has_bit (get_or s (at + j / 8) 0) (j % 8)
  pub small : r < 2 ^ (8 * n)

pub record EightOf (s : List ℕ) (at r : ℕ) : Type 0 where
  pub there : lies (length s) at 8 ≡ true → Holds 8 s at r
  pub missing : lies (length s) at 8 ≡ false → r ≡ 0
