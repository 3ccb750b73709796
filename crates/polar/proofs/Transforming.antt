-- The transform in place: the loop that folds, the recursion on halves, and that over bits it is the transform of 01.
--     togo, xor_step, xor_end     the loop: what is done, and what is left to do
--     half, join                  the recursion on halves
--     polar-bytes             over bytes that are bits
--     transformed-is          what `transform` leaves
use mathlib.Core.Path.{◌≡◌, refl, sym, ap, ap₂, ◌∙◌}
use Prim.Native.Nat.{ℕ, zero, suc, ◌+◌, ◌-◌, ◌/◌, ◌^◌, ◌<◌, ◌≤◌}
use native.Mathlib.Omega.{arith}
use native.Mathlib.Nat.{suc_inj}
use native.Mathlib.Numerals.{add-one}
use mathlib.Core.Bool.{Bool, false}
use mathlib.Core.List.{List, [], ◌∷◌, ◌++◌, map, map-append, append-nil}
use lib.ListN.{length, take, drop, set, get_or, length-map, drop_of_length-le}
use lib.Pow.{pow_mono}
use lib.Seq.{take_at, drop_at, take_all, drop-cons, take-suc-set, drop-set-lt, append_snoc}
use lib.Bits.{bit_xor}
use lib.Dec.{eqb}
use borrow.Author.Tests.{eq-eqb, ne_eqb}
use Rattle.bits.proofs.Parts.{two_pow}
use Rattle.bits.specs.Vectors.{◌⊞◌, bit}
use Rattle.bits.proofs.Words.{xor_bit}
use Rattle.meaning.specs.Transform.{polar}
use Rattle.meaning.proofs.Polar.{halves, polar_append, length-polar}
use Rattle.polar.specs.Bytes.{xor_bytes, polar_bytes, transformed}

-- ---- the loop

-- what is done, and then what is to do
abbrev pub togo : List ℕ → List ℕ → ℕ → List ℕ
togo l s i = take i l ++ xor_bytes (drop i l) (drop i s)

pub xor_step : (l s : List ℕ) (i : ℕ) → i < length l → i < length s → togo (set l i (bit_xor (get_or l i 0) (get_or s i 0))) s (i + 1) ≡ togo l s i
unfolding xor_bytes
xor_step l s i hl hs = let lt : i < suc i = omega arith in rw (add-one, take-suc-set, drop-set-lt (suc i) l i, append_snoc, drop-cons l i 0, drop-cons s i 0)

xor_nil : (l : List ℕ) → xor_bytes [] l ≡ []
unfolding xor_bytes
xor_nil l = refl

pub xor_end : (l s : List ℕ) (i : ℕ) → length l ≤ i → togo l s i ≡ l
xor_end l s i h = rw (drop_of_length-le l, xor_nil, append-nil, take_all)

-- ---- the recursion

pub half : (l : List ℕ) (n : ℕ) → 0 < n → length l ≡ 2 ^ n → length l / 2 ≡ 2 ^ (n - 1)
half l n p e = omega (arith, two_pow n p)

bytes-suc : (n : ℕ) → 0 < n → (l : List ℕ)
    → polar_bytes n l ≡ xor_bytes (polar_bytes (n - 1) (take (2 ^ (n - 1)) l)) (polar_bytes (n - 1) (drop (2 ^ (n - 1)) l)) ++ polar_bytes (n - 1) (drop (2 ^ (n - 1)) l)
unfolding polar_bytes
bytes-suc zero p l = absurd (omega arith)
bytes-suc (suc m) p l =
    let q : suc m - 1 ≡ m = omega arith in
    rw q

pub bytes-zero : (n : ℕ) → n ≤ 0 → (l : List ℕ) → l ≡ polar_bytes n l
unfolding polar_bytes
bytes-zero zero p l = refl
bytes-zero (suc m) p l = absurd (omega arith)

-- the sum of both transformed halves, and the right one behind it, is the transform
pub join : (l a b : List ℕ) (n : ℕ) → 0 < n → length l ≡ 2 ^ n
    → a ≡ polar_bytes (n - 1) (take (length l / 2) l) → b ≡ polar_bytes (n - 1) (drop (length l / 2) l) → xor_bytes a b ++ b ≡ polar_bytes n l
join l a b n p e ea eb = rw (ea, eb, half l n p e, bytes-suc n p l)

-- ---- bytes that are bits

xor_bits : (s t : List Bool) → length s ≡ length t → xor_bytes (map bit s) (map bit t) ≡ map bit (s ⊞ t)
unfolding xor_bytes
xor_bits [] t h = refl
xor_bits (a ∷ s) [] h = absurd (omega arith)
xor_bits (a ∷ s) (b ∷ t) h = ap₂ {C = List ℕ} ◌∷◌ (xor_bit a b) (xor_bits s t (suc_inj h))

pub polar-bytes : (n : ℕ) (u : List Bool) → length u ≡ 2 ^ n → polar_bytes n (map bit u) ≡ map bit (polar n u)
unfolding polar_bytes polar
polar-bytes = halves (λ n u. polar_bytes n (map bit u) ≡ map bit (polar n u)) (λ b. refl)
    (λ n a b la lb ia ib.
    let v = polar n a in
    let w = polar n b in
    let ma : length (map bit a) ≡ 2 ^ n = length-map a bit ∙ la in
    rw (map-append bit a b, take_at (map bit a) (map bit b) (2 ^ n) ma, drop_at (map bit a) (map bit b) (2 ^ n) ma, ia, ib, xor_bits v w (length-polar n a la ∙ sym (length-polar n b lb)), ← map-append bit (v ⊞ w) w)
    (ap (map bit) (sym (polar_append n a b la))))

-- ---- any length

pub too_long : (l n : ℕ) → l < 2 ^ 64 → 63 < n → false ≡ eqb l (2 ^ n)
too_long l n h p = sym (ne_eqb l (2 ^ n) (λ e. omega (arith, pow_mono {i = 64} {j = n} (omega arith))))

pub transformed-is : (n : ℕ) (l : List ℕ) → length l ≡ 2 ^ n → transformed n l ≡ polar_bytes n l
unfolding transformed
transformed-is n l e = rw (eq-eqb (length l) (2 ^ n) e)
