-- A record is fine exactly when its head is and it names no position from the first barred one on; what it says of its position,
-- by its first byte; the count of free records, one by one.
use mathlib.Core.Path.{◌≡◌, refl, sym, ap, subst, ◌∙◌}
use Prim.Native.Nat.{ℕ, zero, suc, ◌+◌, ◌-◌, ◌*◌, ◌/◌, ◌^◌, ◌<◌, ◌≤◌}
use native.Mathlib.Omega.{arith}
use native.Mathlib.Numerals.{add-one}
use mathlib.Core.Bool.{Bool, true, false, ◌&&◌, not, true≢false}
use mathlib.Core.List.{List, ◌∷◌}
use lib.ListN.{length, drop, get_or, drop_of_length-le, length-drop}
use lib.Seq.{drop-cons, get_or-drop}
use lib.Pow.{shr_lt}
use lib.Dec.{eqb, leb}
use borrow.Author.Tests.{le-leb, lt-leb, eq-eqb, ne_eqb}
use Rattle.bits.specs.Vectors.{pick, tab, zeros, first_place}
use Rattle.bits.proofs.Tests.{length-tab, tab-at, place_found, place-next, place_end, all-next, all_end, all-at}
use Rattle.bits.specs.Words.{has_bit}
use Rattle.bits.proofs.WordBits.{zero_bit, leading_bit, shr_bit}
use Rattle.sheet.specs.Masks.{Spelt}
use Rattle.meaning.specs.Limits.{mask_bytes, record_bytes}
use Rattle.meaning.specs.Sheet.{byte, names, mask, fine, Rule, free, frozen, frees, rule_at}
use Rattle.sheet.specs.Records.{head_fine, barred}

and-false : (a : Bool) → a && false ≡ false
and-false true = refl
and-false false = refl

fine-parts : (s : List ℕ) (i : ℕ) → fine s i ≡ head_fine s i && zeros (drop (barred s i) (mask s i))
unfolding fine head_fine barred
fine-parts s i = go (byte s i 0) (byte s i 1) (eqb (byte s i 2) 0) (eqb (byte s i 3) 0)
  where
    z : ℕ → Bool
    z k = zeros (drop k (mask s i))

    go : (k c : ℕ) (a b : Bool) → leb k 1 && leb c 1 && a && b && pick (eqb k 0) (eqb c 0 && z 0) (z i) ≡ leb k 1 && leb c k && a && b && z (pick (eqb k 0) 0 i)
    go zero zero a b = refl
    go zero (suc c) a b = rw (lt-leb (suc c) 0 (omega arith), ne_eqb (suc c) 0 (λ e. omega arith)) (and-false (leb (suc c) 1 && a && b))
    go (suc zero) c a b = refl
    go (suc (suc k)) c a b = rw (lt-leb (suc (suc k)) 1 (omega arith))

-- ---- a sheet of whole records has this many

pub records_in : (l size : ℕ) → l ≡ size * record_bytes → l / record_bytes ≡ size
unfolding record_bytes mask_bytes
records_in l size e = omega (arith, e)

-- ---- the head, test by test

module _ (s : List ℕ) (i : ℕ) where
  pub head_kind : 1 < byte s i 0 → false ≡ head_fine s i
  unfolding head_fine
  head_kind h = rw (lt-leb (byte s i 0) 1 h)

  pub head_constant : byte s i 0 < byte s i 1 → false ≡ head_fine s i
  unfolding head_fine
  head_constant h = rw (lt-leb (byte s i 1) (byte s i 0) h, and-false (leb (byte s i 0) 1))

  pub head_two : (byte s i 2 ≡ 0 → ⊥) → false ≡ head_fine s i
  unfolding head_fine
  head_two h = rw (ne_eqb (byte s i 2) 0 h, and-false (leb (byte s i 0) 1 && leb (byte s i 1) (byte s i 0)))

  pub head_last : byte s i 0 ≤ 1 → byte s i 1 ≤ byte s i 0 → byte s i 2 ≡ 0 → eqb (byte s i 3) 0 ≡ head_fine s i
  unfolding head_fine
  head_last h k e = rw (le-leb (byte s i 0) 1 h, le-leb (byte s i 1) (byte s i 0) k, eq-eqb (byte s i 2) 0 e)

-- ---- the search for a bad record

module _ (s : List ℕ) (i : ℕ) where
  pub head_bad : head_fine s i ≡ false → fine s i ≡ false
  head_bad h = fine-parts s i ∙ rw h

  pub mask_bad : zeros (drop (barred s i) (mask s i)) ≡ false → fine s i ≡ false
  mask_bad h = fine-parts s i ∙ rw h (and-false (head_fine s i))

  pub both-fine : head_fine s i ≡ true → zeros (drop (barred s i) (mask s i)) ≡ true → fine s i ≡ true
  both-fine h k = fine-parts s i ∙ rw (h, k)

  -- position j of the mask: named, or passed over, or past the end
  length-mask : length (mask s i) ≡ 8 * mask_bytes
  unfolding mask
  length-mask = length-tab (8 * mask_bytes) (names s i)

  mask_at : (j : ℕ) → j < 8 * mask_bytes → get_or (mask s i) j false ≡ names s i j
  unfolding mask
  mask_at j h = tab-at (8 * mask_bytes) (names s i) j false h

  not_named : (j : ℕ) → j < 8 * mask_bytes → names s i j ≡ false → zeros (drop j (mask s i)) ≡ zeros (drop (j + 1) (mask s i))
  not_named j h e = rw add-one (all-next not (mask s i) j false (omega (arith, length-mask)) (ap not (mask_at j h ∙ e)))

  -- several positions passed over at once
  pub none_named : (k j : ℕ) → j + k ≤ 8 * mask_bytes → ((t : ℕ) → t < k → names s i (j + t) ≡ false) → zeros (drop j (mask s i)) ≡ zeros (drop (j + k) (mask s i))
  none_named zero j h f = ap (λ (x : ℕ). zeros (drop x (mask s i))) (let e : j ≡ j + 0 = omega arith in e)
  none_named (suc k) j h f =
      let a : names s i j ≡ false = ap (names s i) (let e : j ≡ j + 0 = omega arith in e) ∙ f 0 (omega arith) in
      let g : (t : ℕ) → t < k → names s i (j + 1 + t) ≡ false = λ t l. ap (names s i) (let e : j + 1 + t ≡ j + suc t = omega arith in e) ∙ f (suc t) (omega arith) in
      not_named j (omega arith) a ∙ none_named k (j + 1) (omega arith) g ∙ ap (λ (x : ℕ). zeros (drop x (mask s i))) (let e : j + 1 + k ≡ j + suc k = omega arith in e)

  some-named : (j t : ℕ) → j + t < 8 * mask_bytes → names s i (j + t) ≡ true → zeros (drop j (mask s i)) ≡ false
  some-named j t h e = go (zeros (drop j (mask s i))) refl
    where
      go : (b : Bool) → zeros (drop j (mask s i)) ≡ b → b ≡ false
      go false z = refl
      go true z =
          let l : t < length (drop j (mask s i)) = simp length-drop (omega (arith, length-mask)) in
          let n : get_or (drop j (mask s i)) t false ≡ true = get_or-drop j (mask s i) t false ∙ mask_at (j + t) h ∙ e in
          absurd (true≢false (sym (all-at not false (drop j (mask s i)) z t l) ∙ ap not n))

  -- word k of the mask without its places below j, which lie in it or before it: where it is zero all that it names lies below j
  module _ (j k x : ℕ) (p : Spelt s i k x) (l : 64 * k + 64 ≤ 8 * mask_bytes) (within : j < 64 * k + 64) where
    abbrev from : ℕ
    from = 64 * k + (j - 64 * k)

    named_in : (t : ℕ) → t < 64 - (j - 64 * k) → has_bit (x / 2 ^ (j - 64 * k)) t ≡ names s i (from + t)
    named_in t h =
        let q : 64 * k + (j - 64 * k + t) ≡ from + t = omega arith in
        shr_bit x (j - 64 * k) t ∙ p.bits (j - 64 * k + t) (omega arith) ∙ ap (names s i) q

    pub word_passed : x / 2 ^ (j - 64 * k) ≡ 0 → zeros (drop from (mask s i)) ≡ zeros (drop (64 * k + 64) (mask s i))
    word_passed e =
        let q : from + (64 - (j - 64 * k)) ≡ 64 * k + 64 = omega arith in
        none_named (64 - (j - 64 * k)) from (omega arith) (λ t h. sym (named_in t h) ∙ ap (λ (y : ℕ). has_bit y t) e ∙ zero_bit t)
        ∙ ap (λ (y : ℕ). zeros (drop y (mask s i))) q

    pub word_stops : (x / 2 ^ (j - 64 * k) ≡ 0 → ⊥) → zeros (drop from (mask s i)) ≡ false
    word_stops n =
        let e : 64 ≡ 64 - (j - 64 * k) + (j - 64 * k) = omega arith in
        let small : x / 2 ^ (j - 64 * k) < 2 ^ (64 - (j - 64 * k)) = shr_lt (64 - (j - 64 * k)) (j - 64 * k) (subst (λ (y : ℕ). x < 2 ^ y) e p.small) in
        let (t, k', b, a) = leading_bit (64 - (j - 64 * k)) (x / 2 ^ (j - 64 * k)) (omega (arith, n)) small in
        some-named from t (omega arith) (sym (named_in t (omega arith)) ∙ b)

  pub mask_end : (j : ℕ) → 8 * mask_bytes ≤ j → zeros (drop j (mask s i)) ≡ true
  mask_end j h = all_end not (mask s i) j (omega (arith, length-mask))

module _ (s : List ℕ) (size : ℕ) where
  abbrev flags : List Bool
  flags = tab size (fine s)

  -- what is left to search at record i
  abbrev pub Left : ℕ → Type 0
  Left i = i + first_place not (drop i flags) ≡ first_place not flags

  module _ (i : ℕ) where
    flag_at : i < size → get_or flags i true ≡ fine s i
    flag_at h = tab-at size (fine s) i true h

    pub stops : i < size → fine s i ≡ false → Left i → i ≡ first_place not flags
    stops h e l = sym (place_found not flags i true (omega (arith, length-tab size (fine s))) (ap not (flag_at h ∙ e))) ∙ l

    pub goes_on_lem : i < size → fine s i ≡ true → Left i → Left (i + 1)
    goes_on_lem h e l = rw add-one (sym (place-next not flags i true (omega (arith, length-tab size (fine s))) (ap not (flag_at h ∙ e))) ∙ l)

  pub ends : (i : ℕ) → size ≤ i → Left i → i ≡ first_place not flags
  ends i h l = sym (place_end not flags i (omega (arith, length-tab size (fine s)))) ∙ l

-- ---- the rules, record by record

module _ (s : List ℕ) (i : ℕ) {b : Bool} (e : b ≡ eqb (byte s i 0) 0) where
  -- what a record says, as `is_free` tells it
  pub rule_free : b ≡ true → rule_at s i ≡ free
  unfolding rule_at
  rule_free t = rw (sym e ∙ t)

  pub rule_frozen : b ≡ false → rule_at s i ≡ frozen (eqb (byte s i 1) 1) (mask s i)
  unfolding rule_at
  rule_frozen t = rw (sym e ∙ t)

-- ---- the count of free records

module _ (s : List ℕ) (size : ℕ) where
  abbrev kinds : List Rule
  kinds = tab size (rule_at s)

  -- what is left to count at record i
  abbrev pub Counted : ℕ → ℕ → Type 0
  Counted j c = c + frees (drop j kinds) ≡ frees kinds

  module _ (i : ℕ) where
    pub rules-at : i < size → drop i kinds ≡ rule_at s i ∷ drop (suc i) kinds
    rules-at h =
        drop-cons kinds i free (omega (arith, length-tab size (rule_at s))) ∙ ap {B = List Rule} (λ x. x ∷ drop (suc i) kinds) (tab-at size (rule_at s) i free h)

    module _ {b : Bool} (h : i < size) (e : b ≡ eqb (byte s i 0) 0) where
      pub frees-free : b ≡ true → frees (drop i kinds) ≡ suc (frees (drop (suc i) kinds))
      frees-free t = ap frees (rules-at h ∙ ap {B = List Rule} (λ x. x ∷ drop (suc i) kinds) (rule_free s i e t))

      pub frees-frozen : b ≡ false → frees (drop i kinds) ≡ frees (drop (suc i) kinds)
      frees-frozen t = ap frees (rules-at h ∙ ap {B = List Rule} (λ x. x ∷ drop (suc i) kinds) (rule_frozen s i e t))

      pub one_free : b ≡ true → (k : ℕ) → Counted i k → Counted (i + 1) (k + 1)
      one_free t k l = rw (add-one i) (omega (arith, l, frees-free t))

      pub one_frozen : b ≡ false → (k : ℕ) → Counted i k → Counted (i + 1) k
      one_frozen t k l = rw (add-one i) (omega (arith, l, frees-frozen t))

  pub all-counted : (i : ℕ) → size ≤ i → (k : ℕ) → Counted i k → k ≡ frees kinds
  all-counted i h k l = omega (arith, l, ap frees (drop_of_length-le kinds {i = i} (omega (arith, length-tab size (rule_at s)))))
