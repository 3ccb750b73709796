-- A block of 2 ^ k slots by its halves, and the part of a list from h on, as the borrow checker lends it and takes it back.
--     two_pow, half_of              both halves have 2 ^ (k - 1) slots
--     front                         the part from the start
--     from, from-length, back       the part from h on; its length; the list once the part has come back as b
--     from_back                     the part from h on, once the part before h has come back as a
use mathlib.Core.Path.{◌≡◌, refl, ap, ◌∙◌}
use Prim.Native.Nat.{ℕ, zero, suc, ◌+◌, ◌-◌, ◌/◌, ◌^◌, ◌≤◌, ◌<◌}
use native.Mathlib.Omega.{arith}
use native.Mathlib.Nat.{pow-suc, sub-zero}
use mathlib.Core.List.{List, ◌++◌, append-nil}
use lib.ListN.{length, take, drop, length-drop, drop_of_length-le}
use lib.Seq.{take_all, drop_at}
use borrow.Rule.Slice.PartMut.{put_mid}

pub two_pow : (n : ℕ) → 0 < n → 2 ^ n ≡ 2 ^ (n - 1) + 2 ^ (n - 1)
two_pow zero p = absurd (omega arith)
two_pow (suc m) p =
    let q : suc m - 1 ≡ m = omega arith in
    rw q (pow-suc 2 m ∙ omega arith)

pub half_of : (k m : ℕ) → (k ≡ 0 → ⊥) → m ≡ 2 ^ k → (m ≡ m / 2 + m / 2) × (m / 2 ≡ 2 ^ (k - 1))
half_of k m p e = let q = two_pow k (omega arith) in (omega arith, omega arith)

pub front : (k : ℕ) (l : List ℕ) → take (k - 0) l ≡ take k l
front k l = ap (λ (j : ℕ). take j l) (sub-zero k)

pub from : (l : List ℕ) (h : ℕ) → take (length l - h) (drop h l) ≡ drop h l
from l h = take_all (length l - h) (drop h l) (simp length-drop (omega arith))

pub from-length : (l : List ℕ) (h : ℕ) → length l ≡ h + h → length (take (length l - h) (drop h l)) ≡ h
from-length l h e = ap length (from l h) ∙ length-drop h l ∙ omega arith

pub back : (l b : List ℕ) (h : ℕ) → put_mid h (length l - h) l b ≡ take h l ++ b
back l b h =
    let q : length (drop h l) ≤ length l - h = simp length-drop (omega arith) in
    rw (drop_of_length-le (drop h l) q, append-nil) refl

pub from_back : (l a : List ℕ) (h : ℕ) → length a ≡ h → take (length (a ++ drop h l) - h) (drop h (a ++ drop h l)) ≡ drop h l
from_back l a h e = from (a ++ drop h l) h ∙ drop_at a (drop h l) h e
