-- Division by the check polynomial on words: one step of the register is one step of long division.
--     step-is            a bit shifted in, and the polynomial subtracted where a 1 went out
--     starts, more, fed_more, flush_more     feeding the register, from ones on
--     fed-zero           the remainder is zero exactly when the word is 0
use mathlib.Core.Path.{◌≡◌, refl, sym, ap, ap₂, ◌∙◌, subst}
use mathlib.Core.Logic.{◌⊎◌, inl, inr, ⊎_elim}
use Prim.Native.Nat.{ℕ, zero, suc, ◌+◌, ◌-◌, ◌*◌, ◌/◌, ◌%◌, ◌^◌, ◌<◌, ◌≤◌}
use native.Mathlib.Omega.{arith}
use native.Mathlib.Nat.{pow-suc, div-one, mod-lt, div-eq_of_lt, div-eq_of_lt-le}
use native.Mathlib.Numerals.{add-one}
use native.Mathlib.Decide.{dec_lt}
use mathlib.Core.Bool.{Bool, true, false, ◌&&◌, ◌||◌, not}
use mathlib.Core.List.{List, [], ◌∷◌, ◌++◌, map, map-id, map-append, append_assoc}
use lib.ListN.{length, take, get_or, replicate, replicate-append-replicate}
use lib.Seq.{take-suc}
use lib.Dec.{eqb}
use lib.Pow.{pow_pos}
use lib.Bits.{bit_xor, xor_block, xor_lt}
use borrow.Author.Tests.{eq-eqb, ne_eqb, eqb-true}
use Rattle.bits.specs.Vectors.{◌⊞◌, bit, zeros}
use Rattle.bits.specs.Words.{bit_at}
use Rattle.bits.proofs.Xor.{⊞-none}
use Rattle.bits.proofs.Words.{bit_xor_lem}
use Rattle.bits.proofs.WordBits.{bit-suc, one_xor}
use Rattle.meaning.specs.Limits.{leads}
use Rattle.meaning.specs.Check.{poly, shift, rest, divides}
use Rattle.meaning.specs.Payload.{remainder}
use Rattle.meaning.specs.Answers.{is_one}
use Rattle.meaning.proofs.Remainder.{rest_append, length-poly, scale_none}
use Rattle.meaning.proofs.Ones.{starts_from}
use Rattle.division.specs.Division.{to_bits, poly_word, Shifted, Fed, listed}

-- ---- a word as its bits

pub length-to_bits : (r s : ℕ) → length (to_bits r s) ≡ r
unfolding to_bits
length-to_bits zero s = refl
length-to_bits (suc r) s = ap suc (length-to_bits r s)

to_bits_xor : (r a b : ℕ) → to_bits r (bit_xor a b) ≡ to_bits r a ⊞ to_bits r b
unfolding to_bits
to_bits_xor zero a b = refl
to_bits_xor (suc r) a b =
    ap₂ {C = List Bool} ◌∷◌ (ap (λ (x : ℕ). eqb x 1) (bit_xor_lem a b r) ∙ one_xor (bit_at a r) (bit_at b r) (mod-lt (a / 2 ^ r) (omega arith)) (mod-lt (b / 2 ^ r) (omega arith))) (to_bits_xor r a b)

pub bit-small : (b : Bool) → bit b < 2
bit-small true = omega arith
bit-small false = omega arith

-- a bit put in below
below : (s : ℕ) (b : Bool) → (s * 2 + bit b) / 2 ≡ s
below s true = omega arith
below s false = omega arith

lowest : (s : ℕ) (b : Bool) → eqb ((s * 2 + bit b) % 2) 1 ≡ b
lowest s true = eq-eqb ((s * 2 + 1) % 2) 1 (omega arith)
lowest s false = ne_eqb ((s * 2 + 0) % 2) 1 (λ e. omega arith)

to_bits-put : (r s : ℕ) (b : Bool) → to_bits (suc r) (s * 2 + bit b) ≡ to_bits r s ++ (b ∷ [])
unfolding to_bits
to_bits-put zero s b = ap {B = List Bool} (λ x. x ∷ []) (ap (λ (x : ℕ). eqb (x % 2) 1) (div-one (s * 2 + bit b)) ∙ lowest s b)
to_bits-put (suc r) s b = ap₂ {C = List Bool} ◌∷◌ (ap (λ (x : ℕ). eqb x 1) (bit-suc (s * 2 + bit b) r ∙ ap (λ (x : ℕ). bit_at x r) (below s b))) (to_bits-put r s b)

-- ---- the polynomial as a word

pub record Divisor (r : ℕ) : Type 0 where
  pub bits : to_bits r (poly_word r) ≡ poly r
  pub low : 2 ^ r ≤ poly_word r
  pub high : poly_word r < 2 ^ suc r

pub known : (r : ℕ) → listed r ≡ true → (r ≡ 0) ⊎ ((r ≡ 6) ⊎ (r ≡ 11))
unfolding listed
known r h = go (eqb r 0) (eqb r 6) (eqb-true r 0) (eqb-true r 6) h
  where
    go : (a b : Bool) → (a ≡ true → r ≡ 0) → (b ≡ true → r ≡ 6) → a || b || eqb r 11 ≡ true → (r ≡ 0) ⊎ ((r ≡ 6) ⊎ (r ≡ 11))
    go true b p q h = inl (p refl)
    go false true p q h = inr (inl (q refl))
    go false false p q h = inr (inr (eqb-true r 11 h))

pub divisor : (r : ℕ) → listed r ≡ true → Divisor r
unfolding poly_word to_bits poly
divisor r h = ⊎_elim (λ e. rw e (record { bits = refl; low = omega arith; high = omega arith }))
    (⊎_elim (λ e. rw e (record { bits = refl; low = omega arith; high = omega arith })) (λ e. rw e (record { bits = refl; low = omega arith; high = omega arith })))
    (known r h)

pub length-small : (r : ℕ) → listed r ≡ true → (r ≤ 11) × (2 ^ r ≤ 2 ^ 11)
length-small r h = ⊎_elim (λ e. rw e (omega arith, omega arith)) (⊎_elim (λ e. rw e (omega arith, omega arith)) (λ e. rw e (omega arith, omega arith))) (known r h)

-- ---- one step, by whether a 1 goes out

module _ (r s : ℕ) (b : Bool) (d : Divisor r) (h : s < 2 ^ r) where
  top_one : (k : ℕ) → r ≡ suc k → 2 ^ r ≤ s * 2 + bit b → eqb (bit_at s k) 1 ≡ true
  top_one k e l =
      let p : 2 ^ r ≡ 2 ^ k * 2 = ap (λ (x : ℕ). 2 ^ x) e ∙ pow-suc 2 k in
      let q : s / 2 ^ k ≡ 1 = div-eq_of_lt-le {k = 1} (2 ^ k) {m = s} (omega (arith, bit-small b)) (omega arith) in
      ap (λ (x : ℕ). eqb (x % 2) 1) q

  top-zero : (k : ℕ) → r ≡ suc k → s * 2 + bit b < 2 ^ r → eqb (bit_at s k) 1 ≡ false
  top-zero k e l =
      let p : 2 ^ r ≡ 2 ^ k * 2 = ap (λ (x : ℕ). 2 ^ x) e ∙ pow-suc 2 k in
      let q : s / 2 ^ k ≡ 0 = div-eq_of_lt (omega arith) in
      ap (λ (x : ℕ). eqb (x % 2) 1) q

  -- the remainder so far, shifted, with what is subtracted
  shifted : (o : Bool) → ((k : ℕ) → r ≡ suc k → eqb (bit_at s k) 1 ≡ o) → shift (poly r) (to_bits r s) b ≡ to_bits r (s * 2 + bit b) ⊞ map (λ (x : Bool). o && x) (poly r)
  unfolding to_bits
  shifted o f = go r refl
    where
      go : (m : ℕ) → r ≡ m → shift (poly m) (to_bits m s) b ≡ to_bits m (s * 2 + bit b) ⊞ map (λ (x : Bool). o && x) (poly m)
      go zero e = refl
      go (suc k) e =
          ap₂ ◌⊞◌ (sym (to_bits-put k s b)) (ap (λ (t : Bool). map (λ (x : Bool). t && x) (poly (suc k))) (f k e))

  pub step-over : 2 ^ r ≤ s * 2 + bit b → Shifted r s b (bit_xor (s * 2 + bit b) (poly_word r))
  step-over l =
      let t : ℕ = s * 2 + bit b in
      let p : ℕ = poly_word r in
      let two : 2 ^ suc r ≡ 2 ^ r * 2 = pow-suc 2 r in
      let et : t ≡ 1 * 2 ^ r + (t - 2 ^ r) = omega arith in
      let ep : p ≡ 1 * 2 ^ r + (p - 2 ^ r) = omega (arith, d.low) in
      let lt : t - 2 ^ r < 2 ^ r = omega (arith, bit-small b) in
      let lp : p - 2 ^ r < 2 ^ r = omega (arith, d.low, d.high) in
      let e : bit_xor t p ≡ bit_xor (t - 2 ^ r) (p - 2 ^ r) = ap₂ bit_xor et ep ∙ xor_block r 1 1 (t - 2 ^ r) (p - 2 ^ r) lt lp ∙ omega arith in
      record {
        small = rw e (xor_lt r (t - 2 ^ r) (p - 2 ^ r) lt lp);
        is = to_bits_xor r t p ∙ ap (λ (g : List Bool). to_bits r t ⊞ g) (d.bits ∙ sym (map-id (poly r))) ∙ sym (shifted true (λ k q. top_one k q l));
      }

  pub step_under : s * 2 + bit b < 2 ^ r → Shifted r s b (s * 2 + bit b)
  step_under l =
      let t : ℕ = s * 2 + bit b in
      record {
        small = l;
        is = sym (shifted false (λ k q. top-zero k q l) ∙ ap (λ (g : List Bool). to_bits r t ⊞ g) (scale_none (poly r)) ∙ ⊞-none (to_bits r t) (length (poly r)) (length-to_bits r t ∙ sym (length-poly r)));
      }

-- ---- feeding the register

-- r ones are the word 2 ^ r - 1
ones-bits : (r : ℕ) → to_bits r (2 ^ r - 1) ≡ replicate r true
unfolding to_bits
ones-bits zero = refl
ones-bits (suc r) =
    let e : 2 ^ suc r - 1 ≡ (2 ^ r - 1) * 2 + 1 = omega (arith, pow-suc 2 r, pow_pos r) in
    ap (to_bits (suc r)) e ∙ to_bits-put r (2 ^ r - 1) true ∙ ap (λ (l : List Bool). l ++ (true ∷ [])) (ones-bits r) ∙ replicate-append-replicate r 1 true ∙ ap (λ (k : ℕ). replicate k true) (add-one r)

pub starts : (r : ℕ) → Fed r [] (2 ^ r - 1)
unfolding leads
starts r = record { small = omega (arith, pow_pos r); is = ones-bits r ∙ sym (starts_from r []) }

pub more : (r : ℕ) (v : List Bool) (s t : ℕ) (b : Bool) → Fed r v s → Shifted r s b t → Fed r (v ++ (b ∷ [])) t
more r v s t b f l = record {
  small = l.small;
  is = l.is ∙ ap (λ (x : List Bool). shift (poly r) x b) f.is ∙ sym (rest_append (poly r) (replicate r false) (leads r ++ v) (b ∷ [])) ∙ ap (rest (poly r) (replicate r false)) (append_assoc (leads r) v (b ∷ []));
}

-- the remainder is zero exactly when the word is 0
word_zero : (r s : ℕ) → s < 2 ^ r → zeros (to_bits r s) ≡ eqb s 0
unfolding to_bits
word_zero zero s h = sym (eq-eqb s 0 (omega arith))
word_zero (suc r) s h = go (dec_lt s (2 ^ r)) (word_zero r s)
  where
    go : Dec (s < 2 ^ r) → (s < 2 ^ r → zeros (to_bits r s) ≡ eqb s 0) → not (eqb (bit_at s r) 1) && zeros (to_bits r s) ≡ eqb s 0
    go (yes l) f = ap (λ (x : ℕ). not (eqb (x % 2) 1) && zeros (to_bits r s)) (div-eq_of_lt l) ∙ f l
    go (no l) f =
        let q : s / 2 ^ r ≡ 1 = div-eq_of_lt-le {k = 1} (2 ^ r) {m = s} (omega arith) (omega (arith, pow-suc 2 r)) in
        ap (λ (x : ℕ). not (eqb (x % 2) 1) && zeros (to_bits r s)) q ∙ sym (ne_eqb s 0 (λ e. omega (arith, pow_pos r)))

pub fed-zero : (r : ℕ) (v : List Bool) (s : ℕ) → Fed r v s → divides r (leads r ++ v) ≡ eqb s 0
fed-zero r v s f = ap zeros (sym f.is) ∙ word_zero r s f.small

-- ---- the loops

pub fed_more : (r : ℕ) (l : List ℕ) (i s t : ℕ) → i < length l → Fed r (map is_one (take i l)) s → Shifted r s (is_one (get_or l i 0)) t → Fed r (map is_one (take (i + 1) l)) t
fed_more r l i s t h f k =
    let e : map is_one (take (i + 1) l) ≡ map is_one (take i l) ++ (is_one (get_or l i 0) ∷ []) =
    rw (add-one i, take-suc l i 0 h) (map-append is_one (take i l) (get_or l i 0 ∷ [])) in
    rw e (more r (map is_one (take i l)) s t (is_one (get_or l i 0)) f k)

-- every sequence with remainder `start` has, with i zeros more, remainder s
abbrev pub Flushed : ℕ → ℕ → ℕ → ℕ → Type 0
Flushed r start i s = (v : List Bool) → Fed r v start → Fed r (v ++ replicate i false) s

pub flush_more : (r start i s t : ℕ) → Flushed r start i s → Shifted r s false t → Flushed r start (i + 1) t
flush_more r start i s t f l v q =
    let m = more r (v ++ replicate i false) s t false (f v q) l in
    subst (λ (w : List Bool). Fed r w t) (append_assoc v (replicate i false) (false ∷ []) ∙ ap (λ (w : List Bool). v ++ w) (replicate-append-replicate i 1 false)) m

-- place i of a word's bits, highest first
pub bits_at : (r s i : ℕ) → i < r → get_or (map bit (to_bits r s)) i 0 ≡ bit_at s (r - 1 - i)
unfolding to_bits
bits_at zero s i h = absurd (omega arith)
bits_at (suc r) s zero h = bit_one (bit_at s r) (mod-lt (s / 2 ^ r) (omega arith)) ∙ ap (bit_at s) (omega arith)
  where
    bit_one : (x : ℕ) → x < 2 → bit (eqb x 1) ≡ x
    bit_one zero q = refl
    bit_one (suc zero) q = refl
    bit_one (suc (suc x)) q = absurd (omega arith)
bits_at (suc r) s (suc i) h = bits_at r s i (omega arith) ∙ ap (bit_at s) (omega arith)

-- the remainder of a payload after shifting by r
pub remainder_is : (r : ℕ) (p : List Bool) (s : ℕ) → Fed r (p ++ replicate r false) s → to_bits r s ≡ remainder (poly r) (leads r ++ p)
unfolding remainder
remainder_is r p s f =
    f.is ∙ ap (rest (poly r) (replicate r false)) (sym (append_assoc (leads r) p (replicate r false)))
    ∙ ap (λ (k : ℕ). rest (poly r) (replicate k false) ((leads r ++ p) ++ replicate k false)) (sym (length-poly r))
