-- The bits of a machine word one by one, at any width: those of a xor, the highest, and all as a vector.
--     has_bit_xor, has_bit_or, odd_xor    a bit of a xor and of an or; whether a xor has an odd number of 1s in common with a word
--     bit-has, full-bit      a bit as a number; those of a word of ones
--     bit-top, bit_above     the highest 1, and none above it
--     leading_bit            the leading zeros say where the highest 1 is
--     no_bits                a word none of whose bits is 1 is 0
--     bit-same, bit_other    the bits of a power of 2
--     length-word_bits, word_bits-tab     the vector of the lowest bits
--     odd-word_bits           the parity of an AND by it
--     join-bits, join_lt     two words side by side
--     low_bit, high_bit      a bit of two words side by side
--     shr_bit, shl_bit, shl_low     a bit of a shifted word
--     same_bits              words with the same bits are equal
use mathlib.Core.Path.{◌≡◌, refl, sym, ap, ap₂, ◌∙◌}
use mathlib.Core.Logic.{⊎_elim}
use Prim.Native.Nat.{ℕ, zero, suc, ◌+◌, ◌*◌, ◌-◌, ◌/◌, ◌%◌, ◌^◌, ◌≤◌, ◌<◌}
use native.Mathlib.Omega.{arith}
use native.Mathlib.Nat.{zero-add, suc-add, mul_assoc, mul-le-mul_right, pow-suc, div-one, div-div-eq-div-mul, div-eq_of_lt, div-eq_of_lt-le, lt_of_lt_of_le, eq-zero-or-pos}
use mathlib.Core.Bool.{Bool, true, false, ◌&&◌, ◌||◌, true≢false}
use mathlib.Core.List.{List, ◌∷◌, ◌++◌}
use lib.ListN.{length, get_or, replicate, get_or-replicate}
use lib.Arith.{lt-one}
use lib.Pow.{pow_pos, pow_mono, pow-add, high, low, field, mod-mod-pow, shr-shr, shl-shr}
use lib.Bits.{bit_and, bit_or, bit_xor, and_zero_r, or_shr, or_mod}
use lib.Count.{ones, ones_step, count_leading_zeros, leading_top}
use lib.Dec.{eqb}
use Rattle.bits.specs.Vectors.{◌⊕◌, bit, odd, tab}
use Rattle.bits.proofs.Tests.{tab_ext, tab-at, le_or_lt}
use Rattle.bits.specs.Words.{bit_at, parity_of, has_bit, odd_of, word_bits, full}
use Rattle.bits.proofs.Words.{bit_cases, mod_two, and_half, and_low, parity_of_xor, bit_xor_lem}

-- ---- bits as tests

pub one_xor : (p q : ℕ) → p < 2 → q < 2 → eqb ((p + q) % 2) 1 ≡ eqb p 1 ⊕ eqb q 1
one_xor p q hp hq =
    bit_cases (λ p. eqb ((p + q) % 2) 1 ≡ eqb p 1 ⊕ eqb q 1)
    (bit_cases (λ q. eqb ((0 + q) % 2) 1 ≡ eqb 0 1 ⊕ eqb q 1) refl refl q hq)
    (bit_cases (λ q. eqb ((1 + q) % 2) 1 ≡ eqb 1 1 ⊕ eqb q 1) refl refl q hq) p hp

one_and : (p q : ℕ) → p < 2 → q < 2 → eqb (bit_and p q) 1 ≡ eqb p 1 && eqb q 1
one_and p q hp hq =
    bit_cases (λ p. eqb (bit_and p q) 1 ≡ eqb p 1 && eqb q 1)
    (bit_cases (λ q. eqb (bit_and 0 q) 1 ≡ eqb 0 1 && eqb q 1) refl refl q hq)
    (bit_cases (λ q. eqb (bit_and 1 q) 1 ≡ eqb 1 1 && eqb q 1) refl refl q hq) p hp

pub has_bit_xor : (a b j : ℕ) → has_bit (bit_xor a b) j ≡ has_bit a j ⊕ has_bit b j
has_bit_xor a b j = ap (λ (n : ℕ). eqb n 1) (bit_xor_lem a b j) ∙ one_xor (bit_at a j) (bit_at b j) (mod_two (a / 2 ^ j)) (mod_two (b / 2 ^ j))

one_or : (p q : ℕ) → p < 2 → q < 2 → eqb (bit_or p q) 1 ≡ eqb p 1 || eqb q 1
one_or p q hp hq =
    bit_cases (λ p. eqb (bit_or p q) 1 ≡ eqb p 1 || eqb q 1)
    (bit_cases (λ q. eqb (bit_or 0 q) 1 ≡ eqb 0 1 || eqb q 1) refl refl q hq)
    (bit_cases (λ q. eqb (bit_or 1 q) 1 ≡ eqb 1 1 || eqb q 1) refl refl q hq) p hp

pub has_bit_or : (a b j : ℕ) → has_bit (bit_or a b) j ≡ has_bit a j || has_bit b j
has_bit_or a b j =
    ap (λ (n : ℕ). eqb n 1) (ap (λ (n : ℕ). n % 2) (or_shr a b j) ∙ or_mod (a / 2 ^ j) (b / 2 ^ j) 1)
    ∙ one_or (bit_at a j) (bit_at b j) (mod_two (a / 2 ^ j)) (mod_two (b / 2 ^ j))

pub bit-has : (y j : ℕ) → bit (has_bit y j) ≡ bit_at y j
bit-has y j = bit_cases (λ q. bit (eqb q 1) ≡ q) refl refl (bit_at y j) (mod_two (y / 2 ^ j))

pub odd_xor : (a b v : ℕ) → odd_of (bit_xor a b) v ≡ odd_of a v ⊕ odd_of b v
odd_xor a b v =
    ap (λ (n : ℕ). eqb n 1) (parity_of_xor a b v) ∙ one_xor (parity_of a v) (parity_of b v) (mod_two (ones (bit_and a v))) (mod_two (ones (bit_and b v)))

-- ---- the highest 1

pub bit-top : (x j : ℕ) → 2 ^ j ≤ x → x < 2 ^ suc j → has_bit x j ≡ true
bit-top x j l h = rw (div-eq_of_lt-le {k = 1} (2 ^ j) {m = x} (omega arith) (omega arith)) refl

pub bit_above : (x j t : ℕ) → x < 2 ^ j → j ≤ t → has_bit x t ≡ false
bit_above x j t h l = rw (div-eq_of_lt (lt_of_lt_of_le h (pow_mono l))) refl

pub zero_bit : (j : ℕ) → has_bit 0 j ≡ false
zero_bit j = bit_above 0 0 j (omega arith) (omega arith)

-- place j of the highest 1 of a word of n bits: it and the leading zeros make n
pub leading_bit : (n x : ℕ) → 0 < x → x < 2 ^ n → (j : ℕ) × (count_leading_zeros n x + suc j ≡ n) × (has_bit x j ≡ true) × ((t : ℕ) → j < t → has_bit x t ≡ false)
leading_bit n x p h = let (j, s, lo, hi) = leading_top n x p h in (j, s, bit-top x j lo hi, λ t l. bit_above x (suc j) t hi l)

pub no_bits : (n x : ℕ) → x < 2 ^ n → ((j : ℕ) → j < n → has_bit x j ≡ false) → x ≡ 0
no_bits n x f h =
    ⊎_elim (λ (z : x ≡ 0). z)
    (λ (p : 0 < x). let (j, s, b, a) = leading_bit n x p f in absurd (true≢false (sym b ∙ h j (omega arith))))
    (eq-zero-or-pos x)

-- ---- a power of 2

pub bit-same : (j : ℕ) → has_bit (2 ^ j) j ≡ true
bit-same j = bit-top (2 ^ j) j (omega arith) (omega (arith, pow_pos j))

bit_below : (j i : ℕ) → i < j → has_bit (2 ^ j) i ≡ false
bit_below j i h =
    let s : suc (j - suc i) + i ≡ j = omega arith in
    let q : 2 ^ j / 2 ^ i ≡ 2 ^ suc (j - suc i) = ap (λ (x : ℕ). 2 ^ x / 2 ^ i) (sym s) ∙ ap (λ (x : ℕ). x / 2 ^ i) (pow-add 2 (suc (j - suc i)) i) ∙ shl-shr (2 ^ suc (j - suc i)) i in
    let z : 2 ^ suc (j - suc i) % 2 ≡ 0 = omega arith in
    ap (λ (x : ℕ). eqb (x % 2) 1) q ∙ ap (λ (x : ℕ). eqb x 1) z

pub bit_other : (j i : ℕ) → (i ≡ j → ⊥) → has_bit (2 ^ j) i ≡ false
bit_other j i n =
    ⊎_elim (λ (l : i ≤ j). bit_below j i (differ l)) (λ (l : j < i). bit_above (2 ^ j) (suc j) i (omega (arith, pow_pos j)) l) (le_or_lt i j)
  where
    differ : i ≤ j → i < j
    differ l = ⊎_elim (λ (q : j ≤ i). absurd (n (omega arith))) (λ (q : i < j). q) (le_or_lt j i)

-- ---- all bits

pub length-word_bits : (n a : ℕ) → length (word_bits n a) ≡ n
unfolding word_bits
length-word_bits zero a = refl
length-word_bits (suc n) a = ap suc (length-word_bits n (a / 2))

pub odd-word_bits : (n a v : ℕ) → v < 2 ^ n → odd (word_bits n a) (word_bits n v) ≡ odd_of a v
unfolding word_bits ones
odd-word_bits zero a v h = sym (ap (λ (m : ℕ). eqb (ones m % 2) 1) (ap (bit_and a) (lt-one h) ∙ and_zero_r a))
odd-word_bits (suc n) a v h =
    let m = bit_and a v in
    let s : ones m % 2 ≡ (m % 2 + ones (m / 2) % 2) % 2 = omega (arith, ones_step m) in
    sym (ap (λ (k : ℕ). eqb k 1) s ∙ one_xor (m % 2) (ones (m / 2) % 2) (mod_two m) (mod_two (ones (m / 2)))
    ∙ ap₂ ◌⊕◌ (ap (λ (k : ℕ). eqb k 1) (and_low a v) ∙ one_and (a % 2) (v % 2) (mod_two a) (mod_two v))
    (ap (λ (k : ℕ). eqb (ones k % 2) 1) (and_half a v) ∙ sym (odd-word_bits n (a / 2) (v / 2) (omega arith))))

pub bit-suc : (a j : ℕ) → bit_at a (suc j) ≡ bit_at (a / 2) j
bit-suc a j = ap (λ (x : ℕ). x % 2) (ap (λ (x : ℕ). a / x) (pow-suc 2 j ∙ omega arith) ∙ sym (div-div-eq-div-mul a 2 (2 ^ j)))

pub word_bits-tab : (n a : ℕ) → word_bits n a ≡ tab n (has_bit a)
unfolding word_bits
word_bits-tab zero a = refl
word_bits-tab (suc n) a =
    ap₂ {C = List Bool} ◌∷◌ (ap (λ (x : ℕ). eqb (x % 2) 1) (sym (div-one a)))
    (word_bits-tab n (a / 2) ∙ tab_ext n (has_bit (a / 2)) (λ (j : ℕ). has_bit a (suc j)) (λ j. ap (λ (x : ℕ). eqb x 1) (sym (bit-suc a j))))

-- ---- two words side by side: a in the n lowest bits, b in the next m

pub join-bits : (n m a b : ℕ) → a < 2 ^ n → word_bits (n + m) (a + b * 2 ^ n) ≡ word_bits n a ++ word_bits m b
unfolding word_bits
join-bits zero m a b h = rw (zero-add m) (ap (word_bits m) (omega arith))
join-bits (suc n) m a b h =
    let t : ℕ = b * 2 ^ n in
    let e : b * 2 ^ suc n ≡ 2 * t = ap (λ (p : ℕ). b * p) (pow-suc 2 n) ∙ sym (mul_assoc b (2 ^ n) 2) ∙ omega arith in
    let o : (a + b * 2 ^ suc n) % 2 ≡ a % 2 = omega (arith, e) in
    let q : (a + b * 2 ^ suc n) / 2 ≡ a / 2 + t = omega (arith, e) in
    ap (λ (k : ℕ). word_bits k (a + b * 2 ^ suc n)) (suc-add n m)
    ∙ ap₂ {C = List Bool} (λ (c d : ℕ). eqb c 1 ∷ word_bits (n + m) d) o q ∙ ap {B = List Bool} (λ l. eqb (a % 2) 1 ∷ l) (join-bits n m (a / 2) b (omega (arith, pow-suc 2 n)))

pub join_lt : (n m a b : ℕ) → a < 2 ^ n → b < 2 ^ m → a + b * 2 ^ n < 2 ^ (n + m)
join_lt n m a b ha hb =
    let l : (b + 1) * 2 ^ n ≤ 2 ^ m * 2 ^ n = mul-le-mul_right (2 ^ n) (omega arith) in
    rw (pow-add 2 n m) (omega (arith, l))

-- ---- a bit of a cut, a joined and a shifted word

-- bit j of the e lowest bits
cut_bit : (e j n : ℕ) → j < e → has_bit (n % 2 ^ e) j ≡ has_bit n j
cut_bit e j n l =
    let d : ℕ = e - suc j in
    let s : d + 1 + j ≡ e = omega arith in
    let f : n % 2 ^ e / 2 ^ j ≡ n / 2 ^ j % 2 ^ (d + 1) = ap (λ (x : ℕ). n % 2 ^ x / 2 ^ j) (sym s) ∙ field n (d + 1) j in
    ap (λ (x : ℕ). eqb x 1) (ap (λ (x : ℕ). x % 2) f ∙ mod-mod-pow (n / 2 ^ j) d 1)

pub low_bit : (e j a b : ℕ) → a < 2 ^ e → j < e → has_bit (b * 2 ^ e + a) j ≡ has_bit a j
low_bit e j a b h l = sym (cut_bit e j (b * 2 ^ e + a) l) ∙ ap (λ (x : ℕ). has_bit x j) (low b e h)

pub shr_bit : (n e t : ℕ) → has_bit (n / 2 ^ e) t ≡ has_bit n (e + t)
shr_bit n e t = ap (λ (x : ℕ). eqb (x % 2) 1) (shr-shr n e t)

pub high_bit : (e t a b : ℕ) → a < 2 ^ e → has_bit (b * 2 ^ e + a) (e + t) ≡ has_bit b t
high_bit e t a b h = sym (shr_bit (b * 2 ^ e + a) e t) ∙ ap (λ (x : ℕ). has_bit x t) (high b e h)

-- a word shifted up by e, of which the n lowest bits are left
pub shl_bit : (n e t x : ℕ) → e + t < n → has_bit (x * 2 ^ e % 2 ^ n) (e + t) ≡ has_bit x t
shl_bit n e t x l = cut_bit n (e + t) (x * 2 ^ e) l ∙ sym (shr_bit (x * 2 ^ e) e t) ∙ ap (λ (y : ℕ). has_bit y t) (shl-shr x e)

pub shl_low : (n e p x : ℕ) → p < e → e ≤ n → has_bit (x * 2 ^ e % 2 ^ n) p ≡ false
shl_low n e p x h l =
    let z : x * 2 ^ e ≡ x * 2 ^ e + 0 = omega arith in
    cut_bit n p (x * 2 ^ e) (omega arith) ∙ ap (λ (y : ℕ). has_bit y p) z ∙ low_bit e p 0 x (pow_pos e) h ∙ zero_bit p

-- ---- the bits say the word

pub same_bits : (n a b : ℕ) → a < 2 ^ n → b < 2 ^ n → ((j : ℕ) → j < n → has_bit a j ≡ has_bit b j) → a ≡ b
same_bits zero a b ha hb h = omega arith
same_bits (suc n) a b ha hb h =
    let half = same_bits n (a / 2) (b / 2) (omega arith) (omega arith) (λ j l. ap (λ (x : ℕ). eqb x 1) (sym (bit-suc a j)) ∙ h (suc j) (omega arith) ∙ ap (λ (x : ℕ). eqb x 1) (bit-suc b j)) in
    let low = low_same (a % 2) (b % 2) (mod_two a) (mod_two b) (ap (λ (x : ℕ). eqb (x % 2) 1) (sym (div-one a)) ∙ h 0 (omega arith) ∙ ap (λ (x : ℕ). eqb (x % 2) 1) (div-one b)) in
    omega arith
  where
    low_same : (p q : ℕ) → p < 2 → q < 2 → eqb p 1 ≡ eqb q 1 → p ≡ q
    low_same p q hp hq =
        bit_cases (λ p. eqb p 1 ≡ eqb q 1 → p ≡ q)
        (bit_cases (λ q. eqb 0 1 ≡ eqb q 1 → 0 ≡ q) (λ e. refl) (λ e. absurd (true≢false (sym e))) q hq)
        (bit_cases (λ q. eqb 1 1 ≡ eqb q 1 → 1 ≡ q) (λ e. absurd (true≢false e)) (λ e. refl) q hq) p hp

-- ---- a word of ones

pub full-bits : word_bits 64 full ≡ replicate 64 true
unfolding word_bits
full-bits = refl

pub full-bit : (j : ℕ) → j < 64 → has_bit full j ≡ true
full-bit j h = sym (tab-at 64 (has_bit full) j false h) ∙ ap (λ (l : List Bool). get_or l j false) (sym (word_bits-tab 64 full) ∙ full-bits) ∙ get_or-replicate 64 j true false h
