-- The lanes in which rows with no coefficient have the constant 1.
--     AddedUpTo, add_next           the lanes of one row, 64 at a time
--     collect-led, collect-bare     the lanes of all rows, one more of them, with a coefficient and without
--     place_below                                 the first place, by tests that are equal
--     lane-found, no-lane                         the first lane
use mathlib.Core.Path.{◌≡◌, refl, sym, ap, ap₂, ◌∙◌}
use mathlib.Core.Logic.{◌⊎◌, inl, inr, ⊎_elim}
use Prim.Native.Nat.{ℕ, zero, suc, ◌+◌, ◌*◌, ◌/◌, ◌%◌, ◌^◌, ◌≤◌, ◌<◌}
use native.Mathlib.Omega.{arith}
use native.Mathlib.Nat.{eq-or-lt_of_le}
use mathlib.Core.Bool.{Bool, true, false, not, ◌&&◌, ◌||◌}
use mathlib.Core.List.{List, [], ◌∷◌, ◌++◌}
use lib.ListN.{length, set, get_or, length-set}
use lib.Seq.{get_or-set_same, get_or-set_other}
use lib.Bits.{bit_or}
use borrow.Author.Tests.{eq-eqb, ne_eqb}
use Rattle.bits.specs.Vectors.{pick, all, tab, first_place}
use Rattle.bits.specs.Words.{has_bit}
use Rattle.bits.specs.Rows.{Row}
use Rattle.bits.proofs.Tests.{length-tab, tab-at, not-both, place_passes, place-first, le_or_lt, and-true}
use Rattle.bits.proofs.WordBits.{has_bit_or, zero_bit}
use Rattle.gf2.specs.System.{led, consistent}
use Rattle.lanes.specs.Lanes.{up_to, lane_constant, first_unsound}
use Rattle.lanes.specs.Inner.{LaneWord, lane_in, Added, Collected}

-- ---- the lanes of one row

pub record AddedUpTo (c : ℕ) (x : Row) (b₀ b : List ℕ) (k : ℕ) : Type 0 where
  pub some : k ≤ 8
  pub size : length b ≡ length b₀
  pub new : (i j : ℕ) → i < k → j < 64 → has_bit (get_or b i 0) j ≡ has_bit (get_or b₀ i 0) j || lane_constant c (64 * i + j) x
  pub old : (i : ℕ) → k ≤ i → get_or b i 0 ≡ get_or b₀ i 0

pub add_next : {c : ℕ} {x : Row} {b₀ b : List ℕ} {k : ℕ} → AddedUpTo c x b₀ b k → length b₀ ≡ 8 → k < 8 → (r : ℕ) → LaneWord c k x r → AddedUpTo c x b₀ (set b k (bit_or (get_or b k 0) r)) (k + 1)
add_next {c} {x} {b₀} {b} {k} u l h r w =
    record {
      some = omega arith;
      size = length-set b k y ∙ u.size;
      new = λ i j p q. let s : i ≤ k = omega arith in go i j q (eq-or-lt_of_le s);
      old = λ i p. get_or-set_other b k i y 0 (λ (e : i ≡ k). omega arith) ∙ u.old i (omega arith);
    }
  where
    y : ℕ
    y = bit_or (get_or b k 0) r

    go : (i j : ℕ) → j < 64 → (i ≡ k) ⊎ (i < k) → has_bit (get_or (set b k y) i 0) j ≡ has_bit (get_or b₀ i 0) j || lane_constant c (64 * i + j) x
    go i j q (inl e) =
        rw e
        (ap (λ (z : ℕ). has_bit z j) (get_or-set_same b k y 0 (omega (arith, u.size))) ∙ has_bit_or (get_or b k 0) r j
        ∙ ap₂ ◌||◌ (ap (λ (z : ℕ). has_bit z j) (u.old k (omega arith))) (w.bits j q))
    go i j q (inr p) = ap (λ (z : ℕ). has_bit z j) (get_or-set_other b k i y 0 (λ (e : i ≡ k). omega arith)) ∙ u.new i j p q

or_false : (a : Bool) → a ≡ a || false
or_false true = refl
or_false false = refl

-- ---- the lanes of all rows

all_snoc : {A : Type 0} (p : A → Bool) (l : List A) (a : A) → all p (l ++ (a ∷ [])) ≡ all p l && p a
all_snoc p [] a = and-true (p a)
all_snoc p (x ∷ l) a = ap (λ (b : Bool). p x && b) (all_snoc p l a) ∙ go (p x) (all p l) (p a)
  where
    go : (x y z : Bool) → x && (y && z) ≡ x && y && z
    go true y z = refl
    go false y z = refl

one_more : (s l k : Bool) → not s || (not l && k) ≡ not (s && (l || not k))
one_more true true k = refl
one_more true false true = refl
one_more true false false = refl
one_more false l k = refl

-- a row more
module _ (c : ℕ) (e : List Row) (x : Row) (b : List ℕ) (u : Collected c e b) where
  more : (t : ℕ) → (d : Bool) → led c x ≡ d → not (consistent c (lane_constant c t) e) || (not d && lane_constant c t x) ≡ not (consistent c (lane_constant c t) (e ++ (x ∷ [])))
  more t d q =
      let p : Row → Bool = λ x. led c x || not (lane_constant c t x) in
      one_more (all p e) d (lane_constant c t x)
      ∙ ap (λ (d : Bool). not (all p e && (d || not (lane_constant c t x)))) (sym q)
      ∙ ap not (sym (all_snoc p e x))

  pub collect-led : led c x ≡ true → Collected c (e ++ (x ∷ [])) b
  collect-led q = record { lane = λ t h. u.lane t h ∙ or_false _ ∙ more t true q }

  pub collect-bare : led c x ≡ false → (b' : List ℕ) → Added c x b b' → Collected c (e ++ (x ∷ [])) b'
  collect-bare q b' a = record { lane = λ t h. a.lane t h ∙ ap (λ (d : Bool). d || lane_constant c t x) (u.lane t h) ∙ more t false q }

-- ---- the first lane

-- the first that passes, of the numbers below n
place_up_to : (n : ℕ) (p : ℕ → Bool) (t : ℕ) → t < n → p t ≡ true → ((s : ℕ) → s < t → p s ≡ false) → first_place p (up_to n) ≡ t
place_up_to n p t h here before = go (first_place p (up_to n)) refl
  where
    long : length (up_to n) ≡ n
    long = length-tab n (λ (i : ℕ). i)

    at_place : (i : ℕ) → i < n → get_or (up_to n) i 0 ≡ i
    at_place i q = tab-at n (λ (i : ℕ). i) i 0 q

    go : (s : ℕ) → first_place p (up_to n) ≡ s → s ≡ t
    go s e =
        ⊎_elim
        (λ (q : s ≤ t). ⊎_elim (λ (r : s ≡ t). r) (λ (r : s < t).
        absurd (not-both (ap p (sym (ap (λ (i : ℕ). get_or (up_to n) i 0) e ∙ at_place s (omega arith))) ∙ place_passes p (up_to n) 0 (omega (arith, long))) (before s r))) (eq-or-lt_of_le q))
        (λ (q : t < s). absurd (not-both here (ap p (sym (at_place t h)) ∙ place-first p (up_to n) 0 t (omega arith))))
        (le_or_lt s t)

-- ---- from the words to the equations

pub place_below : (n : ℕ) (f : ℕ → ℕ) (p q : ℕ → Bool) → ((i : ℕ) → i < n → p (f i) ≡ q (f i)) → first_place p (tab n f) ≡ first_place q (tab n f)
place_below zero f p q h = refl
place_below (suc n) f p q h = ap₂ (λ (b : Bool) (k : ℕ). pick b zero (suc k)) (h 0 (omega arith)) (place_below n (λ (i : ℕ). f (suc i)) p q (λ i k. h (suc i) (omega arith)))

module _ (c : ℕ) (e : List Row) (b : List ℕ) (a : Collected c e b) where
  same : first_place (lane_in b) (up_to 512) ≡ first_unsound c e
  unfolding first_unsound
  same = place_below 512 (λ (i : ℕ). i) (lane_in b) (λ (t : ℕ). not (consistent c (lane_constant c t) e)) a.lane

  -- where word k is the first that is not 0, by its lowest 1
  pub lane-found : (k z : ℕ) → k < 8 → z < 64 → ((i : ℕ) → i < k → get_or b i 0 ≡ 0) → get_or b k 0 / 2 ^ z % 2 ≡ 1 → ((i : ℕ) → i < z → get_or b k 0 / 2 ^ i % 2 ≡ 0) → 64 * k + z ≡ first_unsound c e
  lane-found k z hk hz none one zeros = sym (place_up_to 512 (lane_in b) (64 * k + z) (omega arith) here before) ∙ same
    where
      here : lane_in b (64 * k + z) ≡ true
      here =
          let q : (64 * k + z) / 64 ≡ k = omega arith in
          let r : (64 * k + z) % 64 ≡ z = omega arith in
          rw (q, r) (eq-eqb _ 1 one)

      before : (s : ℕ) → s < 64 * k + z → lane_in b s ≡ false
      before s h =
          ⊎_elim
          (λ (q : k ≤ s / 64).
          let e : s / 64 ≡ k = omega arith in
          rw e (ne_eqb _ 1 (λ (r : get_or b k 0 / 2 ^ (s % 64) % 2 ≡ 1). omega (arith, zeros (s % 64) (omega arith)))))
          (λ (q : s / 64 < k). ap (λ (y : ℕ). has_bit y (s % 64)) (none (s / 64) q) ∙ zero_bit (s % 64))
          (le_or_lt k (s / 64))

  -- where all words are 0
  pub no-lane : ((i : ℕ) → i < 8 → get_or b i 0 ≡ 0) → 512 ≤ first_unsound c e
  no-lane none = ⊎_elim (λ (p : 512 ≤ first_place (lane_in b) (up_to 512)). omega (arith, same))
      (λ (p : first_place (lane_in b) (up_to 512) < 512).
      let l : length (up_to 512) ≡ 512 = length-tab 512 (λ (i : ℕ). i) in
      let t : ℕ = get_or (up_to 512) (first_place (lane_in b) (up_to 512)) 0 in
      let h : t < 512 = rw (tab-at 512 (λ (i : ℕ). i) (first_place (lane_in b) (up_to 512)) 0 p) p in
      absurd (not-both (place_passes (lane_in b) (up_to 512) 0 (omega (arith, l))) (ap (λ (z : ℕ). has_bit z (t % 64)) (none (t / 64) (omega arith)) ∙ zero_bit (t % 64)))) (le_or_lt 512 (first_place (lane_in b) (up_to 512)))
