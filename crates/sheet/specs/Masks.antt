-- What a word of a mask says.
--     mask_words         words of a record's mask
--     inside s i k      the sheet has record i, and its mask has word k
--     Spelt s i k r     bit j of r is whether record i names position 64 k + j
--     WordOf s i k r    r is word k of record i's mask, or 0 where there is none
use Rattle.std.specs.Prelude.{◌≡◌, ℕ, ◌+◌, ◌*◌, ◌/◌, ◌^◌, ◌<◌, Bool, true, false, ◌&&◌, List, length, ltb}
use Rattle.bits.specs.Words.{has_bit}
use Rattle.meaning.specs.Limits.{mask_bytes, record_bytes}
use Rattle.meaning.specs.Sheet.{names}

abbrev pub mask_words : ℕ
mask_words = mask_bytes / 8

unfoldable pub inside : List ℕ → ℕ → ℕ → Bool
inside s i k = ltb k mask_words && ltb i (length s / record_bytes)

pub record Spelt (s : List ℕ) (i k r : ℕ) : Type 0 where
  pub bits : (j : ℕ) → j < 64 → has_bit r j ≡ names s i (64 * k + j)
  pub small : r < 2 ^ 64

pub record WordOf (s : List ℕ) (i k r : ℕ) : Type 0 where
  pub there : inside s i k ≡ true → Spelt s i k r
  pub missing : inside s i k ≡ false → r ≡ 0
