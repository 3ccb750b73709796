-- The transform over bytes, as the code does it; over bytes that are bits it is the transform of 01 (proofs/Transforming).
--     xor_bytes       byte by byte, as long as the first
--     polar_bytes     the transform by halves
--     transformed    what `transform` leaves: the transform of 2 ^ n bytes, and any other list as it is
use Rattle.std.specs.Prelude.{ℕ, zero, suc, ◌^◌, List, [], ◌∷◌, ◌++◌, length, take, drop, eqb}
use Rattle.std.specs.Int.Bits.{bit_xor}
use Rattle.bits.specs.Vectors.{pick}

unfoldable pub xor_bytes : List ℕ → List ℕ → List ℕ
xor_bytes [] t = []
xor_bytes (a ∷ s) [] = a ∷ s
xor_bytes (a ∷ s) (b ∷ t) = bit_xor a b ∷ xor_bytes s t

unfoldable pub polar_bytes : ℕ → List ℕ → List ℕ
polar_bytes zero l = l
polar_bytes (suc n) l = let w = polar_bytes n (drop (2 ^ n) l) in xor_bytes (polar_bytes n (take (2 ^ n) l)) w ++ w

unfoldable pub transformed : ℕ → List ℕ → List ℕ
transformed n l = pick (eqb (length l) (2 ^ n)) (polar_bytes n l) l
