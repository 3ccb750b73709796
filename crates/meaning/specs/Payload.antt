-- How a codeword is made of its payload: that it is the one codeword with the payload is proved (proofs/Encode). Of the public promises only
-- that of `division::append` cites a definition of this file, `remainder`.
--     remainder g p      the remainder of p after shifting by r, dividing by D^r + g
--     place ks c f       the bits that the rules ks give after the bits c, with f for the free ones
--     encoded ks r p     the u of payload p
use Rattle.std.specs.Prelude.{Bool, false, ℕ, List, [], ◌∷◌, ◌++◌, length, replicate}
use Rattle.bits.specs.Vectors.{◌⊕◌, odd}
use Rattle.meaning.specs.Limits.{leads}
use Rattle.meaning.specs.Sheet.{Rule, free, frozen}
use Rattle.meaning.specs.Check.{rest, poly}

unfoldable pub remainder : List Bool → List Bool → List Bool
remainder g p = rest g (replicate (length g) false) (p ++ replicate (length g) false)

-- the bits from the rules ks on, after the bits c, with f for the free ones
unfoldable pub place : List Rule → List Bool → List Bool → List Bool
place [] c f = []
place (free ∷ ks) c [] = false ∷ place ks (c ++ (false ∷ [])) []
place (free ∷ ks) c (b ∷ f) = b ∷ place ks (c ++ (b ∷ [])) f
place (frozen o m ∷ ks) c f = (o ⊕ odd m c) ∷ place ks (c ++ ((o ⊕ odd m c) ∷ [])) f

unfoldable pub encoded : List Rule → ℕ → List Bool → List Bool
encoded ks r p = place ks [] (p ++ remainder (poly r) (leads r ++ p))
