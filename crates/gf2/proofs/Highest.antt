-- The highest coefficient of a row, from its last word that is not 0 and that word's leading zeros, as the code finds it.
--     few_zeros, lead_word     a word that is not 0 has fewer than 64; place k of the last one and its leading zeros say the lead
use mathlib.Core.Path.{◌≡◌, refl, sym, ap, ◌∙◌}
use mathlib.Core.Logic.{⊎_elim}
use Prim.Native.Nat.{ℕ, suc, ◌+◌, ◌-◌, ◌*◌, ◌/◌, ◌%◌, ◌^◌, ◌≤◌, ◌<◌}
use native.Mathlib.Omega.{arith}
use native.Mathlib.Nat.{eq-or-lt_of_le}
use mathlib.Core.Bool.{true}
use lib.ListN.{get_or}
use lib.Count.{count_leading_zeros, leading_top}
use Rattle.bits.specs.Words.{has_bit}
use Rattle.bits.proofs.WordBits.{zero_bit, bit-top, bit_above}
use Rattle.bits.specs.Rows.{Row, has_at, has}
use Rattle.gf2.specs.Solve.{lead}
use Rattle.bits.proofs.RowXor.{has-is}
use Rattle.gf2.proofs.Leads.{top-is}

has_at_word : (k j : ℕ) (x : Row) (v : ℕ) → get_or x k 0 ≡ v → has_at k j x ≡ has_bit v j
unfolding has_at
has_at_word k j x v e = ap (λ (a : ℕ). has_bit a j) e

module _ (c : ℕ) (x : Row) (k : ℕ) (h : k < c) (p : 0 < get_or x k 0) (f : get_or x k 0 < 2 ^ 64) where
  abbrev v : ℕ
  v = get_or x k 0

  pub few_zeros : count_leading_zeros 64 v ≤ 63
  few_zeros = let (i, s, lo, hi) = leading_top 64 v p f in omega arith

  pub lead_word : ((t : ℕ) → k < t → t < c → get_or x t 0 ≡ 0) → lead c x ≡ suc (64 * k + (63 - count_leading_zeros 64 v))
  lead_word z =
      let (j, s, lo, up) = leading_top 64 v p f in
      let e : 63 - count_leading_zeros 64 v ≡ j = omega arith in
      let l : j < 64 = omega arith in
      let on : has (64 * k + j) x ≡ true = has-is k j x l ∙ has_at_word k j x v refl ∙ bit-top v j lo up in
      rw e (top-is (λ (b : ℕ). has b x) (64 * c) (64 * k + j) (omega arith) on
      (λ t m n. ⊎_elim
      (λ (q : k ≡ t / 64). has_at_word (t / 64) (t % 64) x v (ap (λ (y : ℕ). get_or x y 0) (sym q)) ∙ bit_above v (suc j) (t % 64) up (omega arith))
      (λ (q : k < t / 64). has_at_word (t / 64) (t % 64) x 0 (z (t / 64) q (omega arith)) ∙ zero_bit (t % 64))
      (eq-or-lt_of_le (omega arith))))
