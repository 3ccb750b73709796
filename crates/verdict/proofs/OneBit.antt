-- Rows with one bit, and rows with none: 0, 1 and the unknowns.
--     has-nought, has_same, has_other     the bits of the zero row; the bit of an unknown's row, and no other
--     unit_row_lem                            the row 1 is that of an unknown behind all coefficients
--     dot-nought, dot-unknown             the sum of their unknowns: 0, and the unknown itself
--     lead-within                         a row with no coefficient from g on
use mathlib.Core.Path.{◌≡◌, refl, sym, ap, ap₂, ◌∙◌}
use mathlib.Core.Logic.{◌⊎◌, inl, inr, ⊎_elim}
use Prim.Native.Nat.{ℕ, zero, suc, ◌+◌, ◌*◌, ◌/◌, ◌%◌, ◌^◌, ◌≤◌, ◌<◌}
use native.Mathlib.Omega.{arith}
use native.Mathlib.Nat.{zero-add, add-zero}
use mathlib.Core.Bool.{Bool, true, false, ◌&&◌}
use mathlib.Core.List.{List, [], ◌∷◌}
use lib.ListN.{get_or, length-replicate}
use lib.Seq.{get_or-set_same, get_or-set_other}
use Rattle.bits.proofs.RowXor.{get_or-nought}
use Rattle.bits.specs.Vectors.{◌⊕◌}
use Rattle.bits.specs.Words.{has_bit}
use Rattle.bits.specs.Rows.{Row, has_at, has, nought_row}
use Rattle.bits.proofs.Tests.{eq_or_ne, le_or_lt, not-both}
use Rattle.bits.proofs.Xor.{⊕-false}
use Rattle.bits.proofs.WordBits.{zero_bit, bit-same, bit_other}
use Rattle.gf2.specs.Solve.{lead}
use Rattle.gf2.specs.System.{dot}
use Rattle.gf2.proofs.Leads.{lead-holds, lead_le}
use Rattle.gf2.proofs.Sums.{dot-none}
use Rattle.model.specs.RowValues.{unit_row, unknown_row}

-- ---- the bits of the rows

pub has-nought : (w b : ℕ) → has b (nought_row w) ≡ false
unfolding has_at
has-nought w b = rw (get_or-nought w (b / 64)) (zero_bit (b % 64))

module _ (w k : ℕ) (h : k / 64 < w) where
  word_same : get_or (unknown_row w k) (k / 64) 0 ≡ 2 ^ (k % 64)
  word_same = get_or-set_same (nought_row w) (k / 64) (2 ^ (k % 64)) 0 (omega (arith, length-replicate {A = ℕ} w 0))

  pub has_same : has k (unknown_row w k) ≡ true
  unfolding has_at
  has_same = rw word_same (bit-same (k % 64))

  pub has_other : (b : ℕ) → (b ≡ k → ⊥) → has b (unknown_row w k) ≡ false
  unfolding has_at
  has_other b n = go (eq_or_ne (b / 64) (k / 64))
    where
      go : (b / 64 ≡ k / 64) ⊎ (b / 64 ≡ k / 64 → ⊥) → has_bit (get_or (unknown_row w k) (b / 64) 0) (b % 64) ≡ false
      go (inl q) = rw (q, word_same) (bit_other (k % 64) (b % 64) (λ (p : b % 64 ≡ k % 64). n (omega arith)))
      go (inr q) = rw (get_or-set_other (nought_row w) (k / 64) (b / 64) (2 ^ (k % 64)) 0 q, get_or-nought w (b / 64)) (zero_bit (b % 64))

-- 1 is the unknown behind all coefficients
pub unit_row_lem : (c w : ℕ) → unit_row c w ≡ unknown_row w (64 * c)
unit_row_lem c w =
    let q : 64 * c / 64 ≡ c = omega arith in
    let z : 64 * c % 64 ≡ 0 = omega arith in
    rw (q, z)

-- ---- the sum of the unknowns

pub dot-nought : (w : ℕ) (z : List Bool) → dot 0 (nought_row w) z ≡ false
dot-nought w z = dot-none 0 (nought_row w) z (λ t p q. has-nought w t)

-- of a row with the bit b + k alone
dot_only : (b : ℕ) (x : Row) (z : List Bool) (k : ℕ) → has (b + k) x ≡ true → ((t : ℕ) → (t ≡ b + k → ⊥) → has t x ≡ false) → dot b x z ≡ get_or z k false
unfolding dot
dot_only b x [] k s o = refl
dot_only b x (t ∷ z) zero s o =
    ap₂ (λ (u v : Bool). (u && t) ⊕ v) (ap (λ (i : ℕ). has i x) (sym (add-zero b)) ∙ s) (dot-none (suc b) x z (λ i l m. o i (λ (q : i ≡ b + 0). omega arith))) ∙ ⊕-false t
dot_only b x (t ∷ z) (suc k) s o =
    let e : b + suc k ≡ suc b + k = omega arith in
    ap₂ (λ (u v : Bool). (u && t) ⊕ v) (o b (λ (q : b ≡ b + suc k). omega arith))
    (dot_only (suc b) x z k (ap (λ (i : ℕ). has i x) (sym e) ∙ s) (λ i n. o i (λ q. n (q ∙ e))))

pub dot-unknown : (w k : ℕ) (z : List Bool) → k / 64 < w → dot 0 (unknown_row w k) z ≡ get_or z k false
dot-unknown w k z h =
    let e = zero-add k in
    dot_only 0 (unknown_row w k) z k (ap (λ (i : ℕ). has i (unknown_row w k)) e ∙ has_same w k h) (λ t n. has_other w k h t (λ q. n (q ∙ sym e)))

-- ---- the highest coefficient

pub lead-within : (c g : ℕ) (x : Row) → ((t : ℕ) → g ≤ t → t < 64 * c → has t x ≡ false) → lead c x ≤ g
lead-within c g x h = go (lead c x) refl
  where
    go : (n : ℕ) → lead c x ≡ n → n ≤ g
    go zero q = omega arith
    go (suc b) q =
        let l = lead_le c x in
        ⊎_elim (λ (p : g ≤ b). absurd (not-both (lead-holds c x b q) (h b p (omega arith)))) (λ (p : b < g). p) (le_or_lt g b)
