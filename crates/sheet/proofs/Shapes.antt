-- The tests of lengths, in the values that the code has by then.
--     positions-none, positions-all, positions-most, size-most     N of an n
--     recorded-.., shaped-..                            each test of the code, and what the definition then says; what holds where it holds
--     check-length-most                                 no check is longer than 11
use mathlib.Core.Path.{◌≡◌, refl, sym, ap, ◌∙◌}
use Prim.Native.Nat.{ℕ, ◌*◌, ◌^◌, ◌<◌, ◌≤◌}
use native.Mathlib.Omega.{arith}
use mathlib.Core.Bool.{Bool, true, false, ◌||◌, not}
use lib.Dec.{eqb, leb}
use lib.Pow.{pow_mono}
use borrow.Author.Tests.{leb-true, eqb-true, le-leb, lt-leb, eq-eqb, not-true, not-false}
use Rattle.bits.specs.Vectors.{bit, pick}
use Rattle.bits.proofs.Tests.{and_l, and_r, and_i}
use Rattle.meaning.specs.Limits.{largest_n, record_bytes, mask_bytes}
use Rattle.meaning.specs.Answers.{check_length}
use Rattle.sheet.specs.Shapes.{positions, recorded, shaped}

-- ---- N

pub positions-none : (n : ℕ) → largest_n < n → positions n ≡ 0
unfolding positions
positions-none n h = rw (lt-leb n largest_n h)

pub positions-all : (n : ℕ) → n ≤ largest_n → positions n ≡ 2 ^ n
unfolding positions
positions-all n h = rw (le-leb n largest_n h)

-- there is a bit of the mask for each of N positions
pub size-most : (n d : ℕ) → n ≤ largest_n → d ≡ 2 ^ n → d ≤ 8 * mask_bytes
unfolding largest_n mask_bytes
size-most n d h e = omega (arith, pow_mono {i = n} {j = largest_n} h)

pub positions-most : (n : ℕ) → positions n ≤ 8 * mask_bytes
unfolding positions
positions-most n = go (leb n largest_n) refl
  where
    go : (t : Bool) → leb n largest_n ≡ t → pick t (2 ^ n) 0 ≤ 8 * mask_bytes
    go true e = size-most n (2 ^ n) (leb-true n largest_n e) refl
    go false e = omega arith

-- ---- N records

pub recorded_large : (n s : ℕ) → largest_n < n → recorded n s ≡ false
unfolding recorded
recorded_large n s h = rw (lt-leb n largest_n h)

pub recorded-size : (n s size : ℕ) → n ≤ largest_n → size ≡ positions n → recorded n s ≡ eqb s (size * record_bytes)
unfolding recorded
recorded-size n s size h e = rw (le-leb n largest_n h, e, positions-all n h)

pub recorded-true : (n s : ℕ) → recorded n s ≡ true → (n ≤ largest_n) × (s ≡ 2 ^ n * record_bytes)
unfolding recorded
recorded-true n s h = (leb-true n largest_n (and_l _ _ h), eqb-true s (2 ^ n * record_bytes) (and_r (leb n largest_n) _ h))

pub recorded_when : (n s : ℕ) → n ≤ largest_n → s ≡ 2 ^ n * record_bytes → recorded n s ≡ true
unfolding recorded
recorded_when n s h e = and_i _ _ (le-leb n largest_n h) (eq-eqb s (2 ^ n * record_bytes) e)

-- ---- and N symbols

module _ (n s d : ℕ) {t : Bool} (p : t ≡ recorded n s) where
  pub shaped_short : not t ≡ true → shaped n s d ≡ false
  unfolding shaped
  shaped_short q = rw (sym p ∙ not-true t q)

  pub shaped_word : (size : ℕ) → not t ≡ false → size ≡ positions n → shaped n s d ≡ eqb d size
  unfolding shaped
  shaped_word size q e = let h = sym p ∙ not-false t q in rw (h, e, positions-all n (recorded-true n s h).0)

pub shaped-true : (n s d : ℕ) → shaped n s d ≡ true → (n ≤ largest_n) × (s ≡ 2 ^ n * record_bytes) × (d ≡ 2 ^ n)
unfolding shaped
shaped-true n s d h = let (a, b) = recorded-true n s (and_l _ _ h) in (a, b, eqb-true d (2 ^ n) (and_r (recorded n s) _ h))

pub shaped_when : (n s d : ℕ) → n ≤ largest_n → s ≡ 2 ^ n * record_bytes → d ≡ 2 ^ n → shaped n s d ≡ true
unfolding shaped
shaped_when n s d h e k = and_i _ _ (recorded_when n s h e) (eq-eqb d (2 ^ n) k)

-- ---- the check length

pub check-length-most : (r : ℕ) → check_length r ≡ true → r ≤ 11
check-length-most r h = go (eqb r 0) (eqb r 6) (eqb r 11) refl refl refl h
  where
    go : (x y z : Bool) → eqb r 0 ≡ x → eqb r 6 ≡ y → eqb r 11 ≡ z → (x || y || z) ≡ true → r ≤ 11
    go true y z p q s k = let e = eqb-true r 0 p in omega arith
    go false true z p q s k = let e = eqb-true r 6 q in omega arith
    go false false true p q s k = let e = eqb-true r 11 s in omega arith
    go false false false p q s k = let z : ◌≡◌ {A = ℕ} 0 1 = ap bit k in absurd (omega arith)
