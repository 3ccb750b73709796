-- What one row says in a lane.
--     common-is, own_is             the two bits that make the constant of a lane
--     common_one, common-zero       the constant that all lanes have in common, as the code reads it
--     lane_word_lem                     the constants of 64 lanes
use mathlib.Core.Path.{◌≡◌, refl, sym, ap, ap₂, ◌∙◌}
use Prim.Native.Nat.{ℕ, ◌+◌, ◌*◌, ◌/◌, ◌%◌, ◌<◌}
use native.Mathlib.Omega.{arith}
use mathlib.Core.Bool.{Bool, true, false}
use lib.ListN.{get_or}
use lib.Bits.{bit_xor}
use Rattle.bits.specs.Vectors.{◌⊕◌, bit, pick}
use Rattle.bits.specs.Words.{has_bit, full}
use Rattle.bits.specs.Rows.{Row, has_at, has}
use Rattle.bits.proofs.WordBits.{has_bit_xor, bit-has, zero_bit, full-bit}
use Rattle.lanes.specs.Inner.{common_word, LaneWord}

module _ (c : ℕ) (x : Row) where
  -- the constant of all lanes
  pub common-is : has (64 * c) x ≡ has_bit (get_or x c 0) 0
  unfolding has_at
  common-is =
      let q : 64 * c / 64 ≡ c = omega arith in
      let z : 64 * c % 64 ≡ 0 = omega arith in
      rw (q, z) refl

  common-bit : bit (has (64 * c) x) ≡ get_or x c 0 % 2
  common-bit =
      let e : get_or x c 0 / 1 ≡ get_or x c 0 = omega arith in
      ap bit common-is ∙ bit-has (get_or x c 0) 0 ∙ ap (λ (y : ℕ). y % 2) e

  pub common_one : get_or x c 0 % 2 ≡ 1 → full ≡ common_word c x
  common_one h = go (has (64 * c) x) common-bit
    where
      go : (b : Bool) → bit b ≡ get_or x c 0 % 2 → full ≡ pick b full 0
      go true e = refl
      go false e = absurd (omega arith)

  pub common-zero : (get_or x c 0 % 2 ≡ 1 → ⊥) → 0 ≡ common_word c x
  common-zero h = go (has (64 * c) x) common-bit
    where
      go : (b : Bool) → bit b ≡ get_or x c 0 % 2 → 0 ≡ pick b full 0
      go true e = absurd (h (sym e))
      go false e = refl

  -- and what lane t has beyond
  pub own_is : (t : ℕ) → has (64 * (c + 1) + t) x ≡ has_bit (get_or x (c + 1 + t / 64) 0) (t % 64)
  unfolding has_at
  own_is t =
      let q : (64 * (c + 1) + t) / 64 ≡ c + 1 + t / 64 = omega arith in
      let z : (64 * (c + 1) + t) % 64 ≡ t % 64 = omega arith in
      rw (q, z) refl

  common_each : (j : ℕ) → j < 64 → has_bit (common_word c x) j ≡ has (64 * c) x
  common_each j h = go (has (64 * c) x)
    where
      go : (b : Bool) → has_bit (pick b full 0) j ≡ b
      go true = full-bit j h
      go false = zero_bit j

  pub lane_word_lem : (k r : ℕ) → r ≡ common_word c x → LaneWord c k x (bit_xor r (get_or x (c + 1 + k) 0))
  lane_word_lem k r e = record {
    bits = λ j h.
        let q : (64 * k + j) / 64 ≡ k = omega arith in
        let z : (64 * k + j) % 64 ≡ j = omega arith in
        let o : has (64 * (c + 1) + (64 * k + j)) x ≡ has_bit (get_or x (c + 1 + k) 0) j = own_is (64 * k + j) ∙ ap₂ (λ (i t : ℕ). has_bit (get_or x (c + 1 + i) 0) t) q z in
        has_bit_xor r (get_or x (c + 1 + k) 0) j ∙ ap₂ ◌⊕◌ (ap (λ (y : ℕ). has_bit y j) e ∙ common_each j h) (sym o);
  }
