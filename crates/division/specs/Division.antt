-- The check's remainder as a word of r bits, D^(r-1) highest.
--     to_bits r s      the r lowest bits of a word, highest first
--     poly_word r      the check polynomial as a word, D^r included
--     Shifted r s b t         t is the remainder s once the bit b is shifted in
--     Fed r v s       s is the remainder of the check's sequence that ends in v
--     listed, fitting          whether there is a check of length r, and room for it
--     dividing, appending      what `divides` and `append` promise
use Rattle.std.specs.Prelude.{◌≡◌, ℕ, zero, suc, ◌+◌, ◌^◌, ◌<◌, Bool, false, ◌&&◌, ◌||◌, List, [], ◌∷◌, ◌++◌, map, length, replicate, eqb}
use Rattle.bits.specs.Vectors.{bit, pick}
use Rattle.bits.specs.Words.{bit_at}
use Rattle.meaning.specs.Limits.{leads}
use Rattle.meaning.specs.Check.{poly, shift, rest, divides}
use Rattle.meaning.specs.Payload.{remainder}
use Rattle.meaning.specs.Answers.{is_one}

-- the r lowest bits of s, highest first
unfoldable pub to_bits : ℕ → ℕ → List Bool
to_bits zero s = []
to_bits (suc r) s = eqb (bit_at s r) 1 ∷ to_bits r s

-- D^6 + D^5 + 1, D^11 + D^10 + D^9 + D^5 + 1, and 1
unfoldable pub poly_word : ℕ → ℕ
poly_word r = pick (eqb r 6) 97 (pick (eqb r 11) 3617 1)

pub record Shifted (r s : ℕ) (b : Bool) (t : ℕ) : Type 0 where
  pub small : t < 2 ^ r
  pub is : to_bits r t ≡ shift (poly r) (to_bits r s) b

pub record Fed (r : ℕ) (v : List Bool) (s : ℕ) : Type 0 where
  pub small : s < 2 ^ r
  pub is : to_bits r s ≡ rest (poly r) (replicate r false) (leads r ++ v)

-- ---- the promises

unfoldable pub listed : ℕ → Bool
listed r = eqb r 0 || eqb r 6 || eqb r 11

unfoldable pub fitting : ℕ → ℕ → ℕ → Bool
fitting len r room = listed r && eqb room (len + r)

unfoldable pub dividing : ℕ → List ℕ → Bool
dividing r l = listed r && divides r (leads r ++ map is_one l)

unfoldable pub appending : ℕ → List ℕ → List ℕ → List ℕ
appending r l out = pick (fitting (length l) r (length out)) (l ++ map bit (remainder (poly r) (leads r ++ map is_one l))) out
