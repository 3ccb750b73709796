-- The test of what a caller hands over, in the values that the code has by then.
--     spaced-..                             each test of the code, and what the definition then says
--     fits-..                               the whole test
--     Ready, ready                          what holds where all fits
use mathlib.Core.Path.{◌≡◌, refl, sym, ◌∙◌}
use Prim.Native.Nat.{ℕ, suc, ◌+◌, ◌-◌, ◌*◌, ◌/◌, ◌%◌, ◌^◌, ◌≤◌, ◌<◌}
use native.Mathlib.Omega.{arith}
use native.Mathlib.Nat.{mul-le-mul_right, div-add-mod, mod-lt}
use mathlib.Core.Bool.{Bool, true, false, not}
use lib.Dec.{eqb, leb, ltb}
use borrow.Author.Tests.{ltb-true, leb-true, leb-false, eqb-true, lt-ltb, le-ltb, le-leb, lt-leb, not-true}
use Rattle.bits.proofs.Tests.{and_l, and_r}
use Rattle.meaning.specs.Limits.{largest_n}
use Rattle.meaning.specs.Answers.{check_length}
use Rattle.sheet.specs.Shapes.{positions, recorded}
use Rattle.sheet.proofs.Shapes.{recorded-true, positions-all}
use Rattle.descent.specs.Descending.{widest}
use Rattle.checks.specs.Checking.{spaced, check_fits}

-- ---- the room for rows

-- k rows of w words fit where there are at least k in a list
fit_div : (k w n : ℕ) → 0 < w → k ≤ n / w → k * w ≤ n
fit_div k w n h q = let e = div-add-mod n w in let f : k * w ≤ n / w * w = mul-le-mul_right w q in omega arith

div_fit : (k w n : ℕ) → 0 < w → n / w < k → n < k * w
div_fit k w n h q =
    let e = div-add-mod n w in
    let f : suc (n / w) * w ≤ k * w = mul-le-mul_right w q in
    let g : n % w < w = mod-lt n h in
    omega arith

module _ (r c w m n : ℕ) where
  pub spaced-wide : widest < w → spaced r c w m n ≡ false
  unfolding spaced
  spaced-wide h = rw (lt-leb w widest h)

  pub spaced-full : w ≤ widest → w ≤ c → spaced r c w m n ≡ false
  unfolding spaced
  spaced-full h q = rw (le-leb w widest h, le-ltb c w q)

  module _ (h : w ≤ widest) (q : c < w) where
    rows_only : spaced r c w m n ≡ leb ((m + r) * w) n
    unfolding spaced
    rows_only = rw (le-leb w widest h, lt-ltb c w q)

    pub spaced_short : n / w < r → spaced r c w m n ≡ false
    spaced_short k = rows_only ∙ lt-leb ((m + r) * w) n (div_fit (m + r) w n (omega arith) (omega arith))

    pub spaced-room : r ≤ n / w → spaced r c w m n ≡ leb m (n / w - r)
    spaced-room k = rows_only ∙ go (leb m (n / w - r)) refl
      where
        go : (t : Bool) → leb m (n / w - r) ≡ t → leb ((m + r) * w) n ≡ t
        go true e = let i = leb-true m (n / w - r) e in le-leb ((m + r) * w) n (fit_div (m + r) w n (omega arith) (omega arith))
        go false e = let i = leb-false m (n / w - r) e in lt-leb ((m + r) * w) n (div_fit (m + r) w n (omega arith) (omega arith))

-- ---- the whole test

module _ (n s r c w u m e : ℕ) {t : Bool} where
  pub fits-recorded : t ≡ recorded n s → not t ≡ true → check_fits n s r c w u m e ≡ false
  unfolding check_fits
  fits-recorded p q = rw (sym p ∙ not-true t q)

  pub fits-length : recorded n s ≡ true → t ≡ check_length r → not t ≡ true → check_fits n s r c w u m e ≡ false
  unfolding check_fits
  fits-length h p q = rw (h, sym p ∙ not-true t q)

  pub fits-spaced : recorded n s ≡ true → check_length r ≡ true → t ≡ spaced r c w m e → not t ≡ true → check_fits n s r c w u m e ≡ false
  unfolding check_fits
  fits-spaced h k p q = rw (h, k, sym p ∙ not-true t q)

pub fits-rows : (n s r c w u m e size : ℕ) → recorded n s ≡ true → check_length r ≡ true → spaced r c w m e ≡ true → size ≡ positions n → check_fits n s r c w u m e ≡ eqb u (size * w)
unfolding check_fits
fits-rows n s r c w u m e size h k l q = rw (h, k, l, q, positions-all n (recorded-true n s h).0)

-- ---- where all fits

pub spaced-true : (r c w m e : ℕ) → spaced r c w m e ≡ true → (w ≤ widest) × (c < w) × ((m + r) * w ≤ e)
unfolding spaced
spaced-true r c w m e h =
    let k = and_r (leb w widest) _ h in
    (leb-true w widest (and_l _ _ h), ltb-true c w (and_l _ _ k), leb-true ((m + r) * w) e (and_r (ltb c w) _ k))

pub record Ready (n s r c w u m e : ℕ) : Type 0 where
  pub small : n ≤ largest_n
  pub known : check_length r ≡ true
  pub narrow : w ≤ widest
  pub constant : c < w
  pub room : (m + r) * w ≤ e
  pub rows_u : u ≡ 2 ^ n * w

pub ready : (n s r c w u m e : ℕ) → check_fits n s r c w u m e ≡ true → Ready n s r c w u m e
unfolding check_fits
ready n s r c w u m e h =
    let k = and_r (recorded n s) _ h in
    let l = and_r (check_length r) _ k in
    let (a, _) = recorded-true n s (and_l _ _ h) in
    let (x, y, z) = spaced-true r c w m e (and_l _ _ l) in
    record {
      small = a;
      known = and_l _ _ k;
      narrow = x;
      constant = y;
      room = z;
      rows_u = eqb-true u (2 ^ n * w) (and_r (spaced r c w m e) _ l);
    }
