-- The laws of machine words, at any width, that the library lacks.
--     xor_assoc, and_xor     xor is associative; and distributes over it
--     ones_xor, parity_xor   the count of a xor: the two counts less twice the common one
--     parity_of_xor          the parity of common 1s is linear
--     bit_xor_lem, xor_bit       bit j of a xor; the xor of two bits as numbers
--     shl_one                1 shifted within a word
use mathlib.Core.Path.{◌≡◌, refl, sym, ap, ap₂, ◌∙◌}
use Prim.Native.Nat.{ℕ, zero, suc, ◌+◌, ◌*◌, ◌/◌, ◌%◌, ◌^◌, ◌≤◌, ◌<◌}
use native.Mathlib.Omega.{arith}
use mathlib.Core.Bool.{Bool, true, false}
use lib.Bits.{bit_and, bit_xor, xor_shr, and_shr, xor_mod, and_mod, xor_add_and}
use lib.Count.{ones, ones_step}
use lib.Pow.{pow-lt}
use native.Mathlib.Nat.{one-mul, mod-eq_of_lt}
use Rattle.bits.specs.Vectors.{◌⊕◌, bit}
use Rattle.bits.specs.Words.{parity_of, bit_at}

-- what holds of both bits holds of a % 2
pub bit_cases : (P : ℕ → Type 0) → P 0 → P 1 → (x : ℕ) → x < 2 → P x
bit_cases P p q zero h = p
bit_cases P p q (suc zero) h = q
bit_cases P p q (suc (suc x)) h = absurd (omega arith)

pub mod_two : (a : ℕ) → a % 2 < 2
mod_two a = omega arith

-- two numbers with the same half and the same lowest bit
same : (a b : ℕ) → a / 2 ≡ b / 2 → a % 2 ≡ b % 2 → a ≡ b
same a b h m = omega arith

xor_half : (a b : ℕ) → bit_xor a b / 2 ≡ bit_xor (a / 2) (b / 2)
xor_half a b = xor_shr a b 1

pub and_half : (a b : ℕ) → bit_and a b / 2 ≡ bit_and (a / 2) (b / 2)
and_half a b = and_shr a b 1

xor_low : (a b : ℕ) → bit_xor a b % 2 ≡ bit_xor (a % 2) (b % 2)
xor_low a b = xor_mod a b 1

pub and_low : (a b : ℕ) → bit_and a b % 2 ≡ bit_and (a % 2) (b % 2)
and_low a b = and_mod a b 1

le_zero : (a : ℕ) → a ≤ 0 → a ≡ 0
le_zero a h = omega arith

-- a law of three numbers that holds of bits and is carried from the halves holds of all
module _ (f g : ℕ → ℕ → ℕ → ℕ)
    (f-half : (a b c : ℕ) → f a b c / 2 ≡ f (a / 2) (b / 2) (c / 2)) (g-half : (a b c : ℕ) → g a b c / 2 ≡ g (a / 2) (b / 2) (c / 2))
    (f-low : (a b c : ℕ) → f a b c % 2 ≡ f (a % 2) (b % 2) (c % 2)) (g-low : (a b c : ℕ) → g a b c % 2 ≡ g (a % 2) (b % 2) (c % 2))
    (bits : (x y z : ℕ) → x < 2 → y < 2 → z < 2 → f x y z ≡ g x y z) where
  upto : (n a b c : ℕ) → a ≤ n → b ≤ n → c ≤ n → f a b c ≡ g a b c
  upto zero a b c ha hb hc = bits a b c (omega arith) (omega arith) (omega arith)
  upto (suc n) a b c ha hb hc =
      same (f a b c) (g a b c)
      (f-half a b c ∙ upto n (a / 2) (b / 2) (c / 2) (omega arith) (omega arith) (omega arith) ∙ sym (g-half a b c))
      (f-low a b c ∙ bits (a % 2) (b % 2) (c % 2) (mod_two a) (mod_two b) (mod_two c) ∙ sym (g-low a b c))

  by_bits : (a b c : ℕ) → f a b c ≡ g a b c
  by_bits a b c = upto (a + b + c) a b c (omega arith) (omega arith) (omega arith)

pub xor_assoc : (a b c : ℕ) → bit_xor (bit_xor a b) c ≡ bit_xor a (bit_xor b c)
xor_assoc =
    by_bits (λ a b c. bit_xor (bit_xor a b) c) (λ a b c. bit_xor a (bit_xor b c))
    (λ a b c. xor_half (bit_xor a b) c ∙ ap (λ (x : ℕ). bit_xor x (c / 2)) (xor_half a b))
    (λ a b c. xor_half a (bit_xor b c) ∙ ap (bit_xor (a / 2)) (xor_half b c))
    (λ a b c. xor_low (bit_xor a b) c ∙ ap (λ (x : ℕ). bit_xor x (c % 2)) (xor_low a b))
    (λ a b c. xor_low a (bit_xor b c) ∙ ap (bit_xor (a % 2)) (xor_low b c))
    (λ x y z hx hy hz. bit_cases (λ x. bit_xor (bit_xor x y) z ≡ bit_xor x (bit_xor y z))
    (bit_cases (λ y. bit_xor (bit_xor 0 y) z ≡ bit_xor 0 (bit_xor y z)) (bit_cases (λ z. bit_xor (bit_xor 0 0) z ≡ bit_xor 0 (bit_xor 0 z)) refl refl z hz) (bit_cases (λ z. bit_xor (bit_xor 0 1) z ≡ bit_xor 0 (bit_xor 1 z)) refl refl z hz) y hy)
    (bit_cases (λ y. bit_xor (bit_xor 1 y) z ≡ bit_xor 1 (bit_xor y z)) (bit_cases (λ z. bit_xor (bit_xor 1 0) z ≡ bit_xor 1 (bit_xor 0 z)) refl refl z hz) (bit_cases (λ z. bit_xor (bit_xor 1 1) z ≡ bit_xor 1 (bit_xor 1 z)) refl refl z hz) y hy)
    x hx)

pub and_xor : (a b c : ℕ) → bit_and (bit_xor a b) c ≡ bit_xor (bit_and a c) (bit_and b c)
and_xor =
    by_bits (λ a b c. bit_and (bit_xor a b) c) (λ a b c. bit_xor (bit_and a c) (bit_and b c))
    (λ a b c. and_half (bit_xor a b) c ∙ ap (λ (x : ℕ). bit_and x (c / 2)) (xor_half a b))
    (λ a b c. xor_half (bit_and a c) (bit_and b c) ∙ ap₂ bit_xor (and_half a c) (and_half b c))
    (λ a b c. and_low (bit_xor a b) c ∙ ap (λ (x : ℕ). bit_and x (c % 2)) (xor_low a b))
    (λ a b c. xor_low (bit_and a c) (bit_and b c) ∙ ap₂ bit_xor (and_low a c) (and_low b c))
    (λ x y z hx hy hz. bit_cases (λ x. bit_and (bit_xor x y) z ≡ bit_xor (bit_and x z) (bit_and y z))
    (bit_cases (λ y. bit_and (bit_xor 0 y) z ≡ bit_xor (bit_and 0 z) (bit_and y z)) (bit_cases (λ z. bit_and (bit_xor 0 0) z ≡ bit_xor (bit_and 0 z) (bit_and 0 z)) refl refl z hz) (bit_cases (λ z. bit_and (bit_xor 0 1) z ≡ bit_xor (bit_and 0 z) (bit_and 1 z)) refl refl z hz) y hy)
    (bit_cases (λ y. bit_and (bit_xor 1 y) z ≡ bit_xor (bit_and 1 z) (bit_and y z)) (bit_cases (λ z. bit_and (bit_xor 1 0) z ≡ bit_xor (bit_and 1 z) (bit_and 0 z)) refl refl z hz) (bit_cases (λ z. bit_and (bit_xor 1 1) z ≡ bit_xor (bit_and 1 z) (bit_and 1 z)) refl refl z hz) y hy)
    x hx)

-- the count of a xor
ones_upto : (n a b : ℕ) → a ≤ n → b ≤ n → ones (bit_xor a b) + ones (bit_and a b) * 2 ≡ ones a + ones b
unfolding ones
ones_upto zero a b ha hb = rw (le_zero a ha, le_zero b hb) refl
ones_upto (suc n) a b ha hb =
    let ih = ones_upto n (a / 2) (b / 2) (omega arith) (omega arith) in
    omega (arith, ih, ones_step (bit_xor a b), ones_step (bit_and a b), ones_step a, ones_step b, ap ones (xor_half a b), ap ones (and_half a b), xor_low a b, and_low a b, xor_add_and (a % 2) (b % 2))

pub ones_xor : (a b : ℕ) → ones (bit_xor a b) + ones (bit_and a b) * 2 ≡ ones a + ones b
ones_xor a b = ones_upto (a + b) a b (omega arith) (omega arith)

pub parity_xor : (a b : ℕ) → ones (bit_xor a b) % 2 ≡ (ones a % 2 + ones b % 2) % 2
parity_xor a b = omega (arith, ones_xor a b)

pub parity_of_xor : (a b c : ℕ) → parity_of (bit_xor a b) c ≡ (parity_of a c + parity_of b c) % 2
parity_of_xor a b c = rw (and_xor a b c) (parity_xor (bit_and a c) (bit_and b c))

low_xor : (a b : ℕ) → bit_xor a b % 2 ≡ (a % 2 + b % 2) % 2
low_xor a b = omega (arith, xor_low a b, xor_add_and (a % 2) (b % 2), mod_two (bit_xor a b))

pub bit_xor_lem : (a b j : ℕ) → bit_at (bit_xor a b) j ≡ (bit_at a j + bit_at b j) % 2
bit_xor_lem a b j = rw (xor_shr a b j) (low_xor (a / 2 ^ j) (b / 2 ^ j))

pub shl_one : (n : ℕ) → n < 64 → 1 * 2 ^ n % 2 ^ 64 ≡ 2 ^ n
shl_one n h = rw (one-mul (2 ^ n)) (mod-eq_of_lt (pow-lt h))

-- two bits as numbers
pub xor_bit : (a b : Bool) → bit_xor (bit a) (bit b) ≡ bit (a ⊕ b)
xor_bit true true = refl
xor_bit true false = refl
xor_bit false true = refl
xor_bit false false = refl
