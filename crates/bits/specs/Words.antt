-- The bits of machine words.
--     bit_at a j        bit j of a, bit 0 lowest
--     parity_of a b     whether a and b have an odd number of 1s in common
--     has_bit, odd_of    the same two as tests
--     word_bits n a     the n lowest bits of a, lowest first
--     full             a word of 64 ones
use Rattle.std.specs.Prelude.{ℕ, zero, suc, ◌%◌, ◌/◌, ◌^◌, Bool, List, [], ◌∷◌, eqb}
use Rattle.std.specs.Int.Bits.{bit_and}
use Rattle.std.specs.Int.Count.{ones}

-- bit j, bit 0 lowest
abbrev pub bit_at : ℕ → ℕ → ℕ
bit_at a j = a / 2 ^ j % 2

-- 1 if an odd number of the places that a names hold 1 in b, else 0
abbrev pub parity_of : ℕ → ℕ → ℕ
parity_of a b = ones (bit_and a b) % 2

-- whether bit j is 1
abbrev pub has_bit : ℕ → ℕ → Bool
has_bit a j = eqb (bit_at a j) 1

-- whether an odd number of the places that a names hold 1 in b
abbrev pub odd_of : ℕ → ℕ → Bool
odd_of a b = eqb (parity_of a b) 1

-- the n lowest bits, lowest first
unfoldable pub word_bits : ℕ → ℕ → List Bool
word_bits zero a = []
word_bits (suc n) a = eqb (a % 2) 1 ∷ word_bits n (a / 2)

abbrev pub full : ℕ
full = 18446744073709551615
