-- The transform x = u F^(⊗n) with F = [1 0; 1 1], in natural order (source document 000).
--     polar n u     by halves: the left half of u gives v, the right half w; the block is v + w, then w
--     xor_of c u     the XOR of all u_i with c i
--     covers j i    every bit set in j is set in i
-- The published formula, x_j = xor_of (covers j) u, is a law: proofs/Formula.
use Rattle.std.specs.Prelude.{ℕ, zero, suc, ◌^◌, Bool, false, ◌&&◌, List, [], ◌∷◌, ◌++◌, take, drop, eqb}
use Rattle.std.specs.Int.Bits.{bit_and}
use Rattle.bits.specs.Vectors.{◌⊕◌, ◌⊞◌}

-- the left half of u gives v, the right half gives w: v + w, then w
unfoldable pub polar : ℕ → List Bool → List Bool
polar zero u = u
polar (suc n) u =
    let v = polar n (take (2 ^ n) u) in
    let w = polar n (drop (2 ^ n) u) in
    (v ⊞ w) ++ w

-- the XOR of all u_i with c i
abbrev pub xor_of : (ℕ → Bool) → List Bool → Bool
xor_of c [] = false
xor_of c (b ∷ u) = (c zero && b) ⊕ xor_of (λ (i : ℕ). c (suc i)) u

-- every bit set in j is set in i
unfoldable pub covers : ℕ → ℕ → Bool
covers j i = eqb (bit_and i j) j
