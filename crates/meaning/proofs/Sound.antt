-- A sheet with no bad record.
--     all-fine         each of its records is fine
--     rules-early      its rules name only earlier positions
--     length-rules     there are N of them
use mathlib.Core.Path.{◌≡◌, refl, sym, ap, ◌∙◌}
use Prim.Native.Nat.{ℕ, zero, suc, ◌+◌, ◌^◌, ◌<◌}
use native.Mathlib.Omega.{arith}
use native.Mathlib.Nat.{zero-add}
use mathlib.Core.Bool.{Bool, true, false, ◌&&◌, not}
use mathlib.Core.List.{List, ◌∷◌}
use lib.ListN.{length, drop}
use lib.Dec.{eqb, leb, ltb}
use borrow.Author.Tests.{ltb-false, not-false}
use Rattle.bits.specs.Vectors.{pick, first_place, tab, zeros}
use Rattle.bits.proofs.Tests.{and_r, and_i, length-tab, tab-at, place-first}
use Rattle.meaning.specs.Sheet.{Rule, free, frozen, early, byte, mask, rule_at, rules, fine, bad_record}

abbrev early_rule : ℕ → Rule → Bool
early_rule i free = true
early_rule i (frozen c m) = zeros (drop i m)

early-cons : (i : ℕ) (k : Rule) (ks : List Rule) → early_rule i k ≡ true → early (suc i) ks ≡ true → early i (k ∷ ks) ≡ true
early-cons i free ks h l = l
early-cons i (frozen c m) ks h l = and_i _ _ h l

early-tab : (n i : ℕ) (f : ℕ → Rule) → ((j : ℕ) → j < n → early_rule (i + j) (f j) ≡ true) → early i (tab n f) ≡ true
early-tab zero i f h = refl
early-tab (suc n) i f h =
    early-cons i (f zero) (tab n (λ (j : ℕ). f (suc j))) (rw (let e : i + 0 ≡ i = omega arith in e) at (h zero (omega arith)))
    (early-tab n (suc i) (λ (j : ℕ). f (suc j)) (λ j l. rw (let e : i + suc j ≡ suc i + j = omega arith in e) at (h (suc j) (omega arith))))

fine-early : (s : List ℕ) (i : ℕ) → fine s i ≡ true → early_rule i (rule_at s i) ≡ true
unfolding fine rule_at
fine-early s i h = go (eqb (byte s i 0) 0) (and_r (leb (byte s i 0) 1 && leb (byte s i 1) 1 && eqb (byte s i 2) 0 && eqb (byte s i 3) 0) _ h)
  where
    go : (b : Bool) → pick b (eqb (byte s i 1) 0 && zeros (mask s i)) (zeros (drop i (mask s i))) ≡ true → early_rule i (pick b free (frozen (eqb (byte s i 1) 1) (mask s i))) ≡ true
    go true k = refl
    go false k = k

module _ (n : ℕ) (s : List ℕ) where
  pub length-rules : length (rules n s) ≡ 2 ^ n
  unfolding rules
  length-rules = length-tab (2 ^ n) (rule_at s)

  module _ (h : ltb (bad_record n s) (2 ^ n) ≡ false) where
    pub all-fine : (i : ℕ) → i < 2 ^ n → fine s i ≡ true
    unfolding bad_record
    all-fine i l =
        let b : i < first_place not (tab (2 ^ n) (fine s)) = omega (arith, ltb-false (bad_record n s) (2 ^ n) h) in
        not-false (fine s i) (ap not (sym (tab-at (2 ^ n) (fine s) i true l)) ∙ place-first not (tab (2 ^ n) (fine s)) true i b)

    pub rules-early : early 0 (rules n s) ≡ true
    unfolding rules
    rules-early = early-tab (2 ^ n) 0 (rule_at s) (λ j l. rw zero-add (fine-early s j (all-fine j l)))
