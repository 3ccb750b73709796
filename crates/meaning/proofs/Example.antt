-- 01's example with r = 6, worked out anew: N = 8, u_0 = 0, all else free. So K = 7, the payload is one bit, and six check bits follow it.
--     divided_0, divided_1     the division, by hand: what is left after each bit, from six ones on; the last is the check bits
--     two-kept                 the u that keep the rule and the check are 0, payload, check bits: 00110101 and 01010100
use mathlib.Core.Path.{◌≡◌, refl}
use Prim.Native.Nat.{ℕ}
use mathlib.Core.Bool.{Bool, false}
use mathlib.Core.List.{List, [], ◌∷◌, map}
use lib.ListN.{replicate}
use Rattle.bits.specs.Vectors.{all_bits, filter}
use Rattle.meaning.specs.Limits.{leads}
use Rattle.meaning.specs.Sheet.{free, frozen}
use Rattle.meaning.specs.Check.{poly, shift, keeps}
use Rattle.meaning.specs.Answers.{is_one}
use Rattle.meaning.specs.Bench.{digits}

-- k bits, written as a decimal number
abbrev written : ℕ → ℕ → List Bool
written k n = map is_one (digits k n [])

-- what is left after each bit
abbrev lefts : List Bool → List Bool → List Bool → List (List Bool)
lefts g s [] = []
lefts g s (b ∷ v) = shift g s b ∷ lefts g (shift g s b) v

pub divided_0 : lefts (poly 6) (leads 6) (written 7 0000000) ≡ map (written 6) (011111 ∷ 111110 ∷ 011101 ∷ 111010 ∷ 010101 ∷ 101010 ∷ 110101 ∷ [])
unfolding poly leads
divided_0 = refl

pub divided_1 : lefts (poly 6) (leads 6) (written 7 1000000) ≡ map (written 6) (011110 ∷ 111100 ∷ 011001 ∷ 110010 ∷ 000101 ∷ 001010 ∷ 010100 ∷ [])
unfolding poly leads
divided_1 = refl

pub two-kept : filter (keeps (frozen false [] ∷ replicate 7 free) 6) (all_bits 8) ≡ map (written 8) (00110101 ∷ 01010100 ∷ [])
unfolding keeps poly leads all_bits
two-kept = refl
