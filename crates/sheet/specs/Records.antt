-- The rules for a record in the parts that the code tests: its first four bytes, and the positions that it may not name.
use Rattle.std.specs.Prelude.{ℕ, ◌/◌, Bool, ◌&&◌, not, List, length, eqb, leb}
use Rattle.bits.specs.Vectors.{pick, tab, first_place}
use Rattle.meaning.specs.Limits.{record_bytes}
use Rattle.meaning.specs.Sheet.{byte, fine}

-- byte 0 is 0 or 1, byte 1 is 0 or, in a frozen record, 1, bytes 2 and 3 are zero
unfoldable pub head_fine : List ℕ → ℕ → Bool
head_fine s i = leb (byte s i 0) 1 && leb (byte s i 1) (byte s i 0) && eqb (byte s i 2) 0 && eqb (byte s i 3) 0

-- the first position that record i may not name
unfoldable pub barred : List ℕ → ℕ → ℕ
barred s i = pick (eqb (byte s i 0) 0) 0 i

-- the first of the sheet's whole records that breaks a rule; their number where none does
abbrev pub first_fault : List ℕ → ℕ
first_fault s = first_place not (tab (length s / record_bytes) (fine s))
