-- One row, as the code reads it.
--     odd-is       whether it has an odd number of coefficients: by the sum of their words
--     first-is     its constant
use mathlib.Core.Path.{◌≡◌, refl, sym, ap, ap₂, ◌∙◌}
use Prim.Native.Nat.{ℕ, zero, suc, ◌+◌, ◌*◌, ◌%◌, ◌/◌, ◌≤◌, ◌<◌}
use native.Mathlib.Omega.{arith}
use native.Mathlib.Numerals.{add-one}
use mathlib.Core.Bool.{Bool, true}
use mathlib.Core.List.{List, ◌++◌}
use Rattle.std.specs.List.{fold}
use Rattle.std.proofs.lemmas.List.Sums.{fold_more}
use lib.ListN.{get_or, length, take, replicate, get_or-replicate, replicate-append-replicate}
use lib.Bits.{bit_xor, bit_and}
use lib.Count.{ones}
use lib.Dec.{eqb}
use Rattle.bits.specs.Vectors.{◌⊕◌, bit}
use Rattle.bits.specs.Words.{parity_of, odd_of, word_bits, full}
use Rattle.bits.specs.Rows.{Row, has_at}
use Rattle.bits.proofs.Words.{bit_cases, mod_two}
use Rattle.bits.proofs.WordBits.{odd_xor, full-bits}
use Rattle.gf2.specs.System.{dot, unpack, parity}
use Rattle.gf2.proofs.Packed.{parity-is}
use Rattle.verdict.specs.OffRows.{row_first}

-- ---- their sum

all_ones : (c k : ℕ) → k ≤ c → unpack k (replicate c full) ≡ replicate (64 * k) true
unfolding unpack
all_ones c zero h = refl
all_ones c (suc k) h =
    let e : 64 * k + 64 ≡ 64 * suc k = omega arith in
    ap₂ {C = List Bool} ◌++◌ (all_ones c k (omega arith)) (ap (word_bits 64) (get_or-replicate c k full 0 (omega arith)) ∙ full-bits)
    ∙ replicate-append-replicate (64 * k) 64 true ∙ ap (λ (m : ℕ). replicate m true) e

module _ (c : ℕ) (x : Row) where
  -- the first k words
  abbrev pub sum : ℕ → Bool
  sum k = parity k (replicate c full) x

  sum_is : sum c ≡ dot 0 x (replicate (64 * c) true)
  sum_is =
      sym (parity-is c (replicate c full) x (λ k h. rw (get_or-replicate c k full 0 h) (omega arith)))
      ∙ ap (dot 0 x) (all_ones c c (omega arith))

  summed : (k : ℕ) → k ≤ c → c ≤ length x → odd_of (fold (λ s y. bit_xor s y) 0 (take k x)) full ≡ sum k
  unfolding parity ones
  summed zero h l = refl
  summed (suc k) h l =
      let s : ℕ = fold (λ s y. bit_xor s y) 0 (take k x) in
      ap (λ (n : ℕ). odd_of (fold (λ s y. bit_xor s y) 0 (take n x)) full) (sym (add-one k))
      ∙ ap (λ (z : ℕ). odd_of z full) (fold_more (λ s y. bit_xor s y) 0 x k 0 (omega arith))
      ∙ odd_xor s (get_or x k 0) full
      ∙ ap₂ ◌⊕◌ (summed k (omega arith) l) (ap (odd_of (get_or x k 0)) (sym (get_or-replicate c k full 0 (omega arith))))

  bit_one : (p : ℕ) → p < 2 → p ≡ bit (eqb p 1)
  bit_one p h = bit_cases (λ q. q ≡ bit (eqb q 1)) refl refl p h

  pub odd-is : (s p : ℕ) → s ≡ fold (λ s y. bit_xor s y) 0 (take c x) → c ≤ length x → p ≡ parity_of s full → p ≡ bit (dot 0 x (replicate (64 * c) true))
  odd-is s p e l q =
      q ∙ bit_one (parity_of s full) (mod_two (ones (bit_and s full)))
      ∙ ap bit (ap (λ (z : ℕ). odd_of z full) e ∙ summed c (omega arith) l ∙ sum_is)

  -- ---- what it says

  pub first-is : get_or x c 0 % 2 ≡ row_first c x
  unfolding has_at
  first-is =
      let q : 64 * c / 64 ≡ c = omega arith in
      let z : 64 * c % 64 ≡ 0 = omega arith in
      let e : get_or x c 0 / 1 ≡ get_or x c 0 = omega arith in
      rw (q, z, e) (bit_one (get_or x c 0 % 2) (mod_two (get_or x c 0)))
