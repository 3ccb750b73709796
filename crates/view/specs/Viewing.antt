-- A view of one cartridge's record within a strip of N = 2 ^ n records end to end.
--     cartridge_bytes            bytes of a cartridge's record
--     has_record n at len        n is at most the largest, `at` is below N, and a strip of len bytes has N records
--     record_of strip n at       the record of cartridge `at`, or nothing where there is none
--     place_of strip n at        where that part of the lent strip lies in memory, a block and a byte of it; nothing lies where the strip starts
use Rattle.std.specs.Prelude.{ℕ, ◌+◌, ◌*◌, ◌^◌, Bool, ◌&&◌, List, [], length, take, drop, eqb, leb, ltb}
use Rattle.std.specs.Borrow.{Bor}
use Rattle.bits.specs.Vectors.{pick}
use Rattle.meaning.specs.Limits.{largest_n}

unfoldable pub cartridge_bytes : ℕ
cartridge_bytes = 64

unfoldable pub has_record : ℕ → ℕ → ℕ → Bool
has_record n at len = leb n largest_n && (ltb at (2 ^ n) && eqb len (2 ^ n * cartridge_bytes))

unfoldable pub record_of : List ℕ → ℕ → ℕ → List ℕ
record_of strip n at = pick (has_record n at (length strip)) (take cartridge_bytes (drop (at * cartridge_bytes) strip)) []

unfoldable pub place_of : Bor (List ℕ) → ℕ → ℕ → ℕ × ℕ
place_of strip n at = (strip.ref_ptr.0, strip.ref_ptr.1 + pick (has_record n at (length strip.now)) (at * cartridge_bytes) 0)
