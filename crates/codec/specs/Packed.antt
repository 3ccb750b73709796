-- Values of positions, packed into words of 64 bits so that a record's mask can be counted against them word by word.
--     held v            the values that packed words hold: of position j, bit j mod 64 of word j div 64
--     Holds v c         they are those of c, and 0 past its end
--     put v i b         the words with b put in for position i, whose bit was 0
use Rattle.std.specs.Prelude.{◌≡◌, ℕ, ◌*◌, ◌/◌, ◌%◌, ◌^◌, Bool, false, List, length, get_or, set}
use Rattle.std.specs.Int.Bits.{bit_xor}
use Rattle.bits.specs.Vectors.{tab}
use Rattle.bits.specs.Words.{has_bit}

abbrev pub value_at : List ℕ → ℕ → Bool
value_at v j = has_bit (get_or v (j / 64) 0) (j % 64)

unfoldable pub held : List ℕ → List Bool
held v = tab (64 * length v) (value_at v)

abbrev pub Holds : List ℕ → List Bool → Type 0
Holds v c = (j : ℕ) → get_or (held v) j false ≡ get_or c j false

abbrev pub put : List ℕ → ℕ → ℕ → List ℕ
put v i b = set v (i / 64) (bit_xor (get_or v (i / 64) 0) (b * 2 ^ (i % 64)))
