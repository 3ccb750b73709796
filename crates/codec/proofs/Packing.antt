-- Packed values: counting a mask against them gives the parity of the named positions, and one value more can be put in.
--     parity-bits    the count of common ones of two words, at any width
--     word_more      the first k words: one more; all_words: all of them
--     word_bits_lem      the bits of a word of the mask
--     odd-held       what the values hold decides
--     holds_more     one value more
use mathlib.Core.Path.{◌≡◌, refl, sym, ap, ap₂, ◌∙◌}
use Prim.Native.Nat.{ℕ, zero, suc, ◌+◌, ◌*◌, ◌/◌, ◌%◌, ◌^◌, ◌<◌, ◌≤◌}
use native.Mathlib.Omega.{arith}
use native.Mathlib.Nat.{suc_inj, zero-mul, one-mul}
use native.Mathlib.Decide.{dec_lt, ℕ_discrete}
use mathlib.Core.Bool.{Bool, true, false, ◌&&◌}
use mathlib.Core.List.{List, [], ◌∷◌, ◌++◌}
use lib.ListN.{length, get_or, length-append, length-set, replicate, length-replicate, get_or-replicate, get_or-eq_default}
use lib.Seq.{get_or-set_same, get_or-set_other, get_or-append_seam}
use lib.Dec.{eqb}
use lib.Bits.{bit_and, bit_xor}
use lib.Count.{ones}
use borrow.Author.Tests.{eq-eqb, ne_eqb}
use Rattle.bits.specs.Vectors.{◌⊕◌, bit, tab, odd}
use Rattle.bits.specs.Words.{has_bit, parity_of, word_bits}
use Rattle.bits.proofs.Xor.{⊕-assoc, ⊕-comm, ⊕-false}
use Rattle.bits.proofs.Words.{bit_cases, mod_two, xor_bit}
use Rattle.bits.proofs.Tests.{and-false, length-tab, tab-at, tab_below, tab_append}
use Rattle.bits.proofs.WordBits.{has_bit_xor, zero_bit, bit-same, bit_other, odd-word_bits, word_bits-tab}
use Rattle.meaning.specs.Limits.{mask_bytes}
use Rattle.meaning.specs.Sheet.{names, mask}
use Rattle.meaning.specs.Answers.{is_one}
use Rattle.sheet.specs.Masks.{mask_words, Spelt}
use Rattle.codec.specs.Packed.{value_at, held, Holds, put}

-- ---- two words

-- the count of common ones is odd exactly when an odd number of the named bits hold 1
parity-bits : (w a b : ℕ) → b < 2 ^ w → parity_of a b ≡ bit (odd (word_bits w a) (word_bits w b))
parity-bits w a b h = bit_cases (λ x. x ≡ bit (is_one x)) refl refl (parity_of a b) (mod_two (ones (bit_and a b))) ∙ ap bit (sym (odd-word_bits w a b h))

-- ---- the first k words

odd_append : (m m' u u' : List Bool) → length m ≡ length u → odd (m ++ m') (u ++ u') ≡ odd m u ⊕ odd m' u'
odd_append [] m' [] u' h = refl
odd_append [] m' (b ∷ u) u' h = absurd (omega arith)
odd_append (a ∷ m) m' [] u' h = absurd (omega arith)
odd_append (a ∷ m) m' (b ∷ u) u' h = ap (λ (t : Bool). (a && b) ⊕ t) (odd_append m m' u u' (suc_inj h)) ∙ sym (⊕-assoc (a && b) (odd m u) (odd m' u'))

pub flipped : (p : Bool) → bit_xor (bit p) 1 ≡ bit (true ⊕ p)
flipped p = xor_bit p true ∙ ap bit (⊕-comm p true)

-- whether an odd number of the positions that f names hold 1, of those in the first k words of v
abbrev pub odd_first : (ℕ → Bool) → List ℕ → ℕ → Bool
odd_first f v k = odd (tab (64 * k) f) (tab (64 * k) (value_at v))

-- the values in word k are its bits
own_bits : (v : List ℕ) (k : ℕ) → tab 64 (λ (t : ℕ). value_at v (64 * k + t)) ≡ word_bits 64 (get_or v k 0)
own_bits v k =
    tab_below 64 (λ (t : ℕ). value_at v (64 * k + t)) (has_bit (get_or v k 0)) (λ t l.
    let q : (64 * k + t) / 64 ≡ k = omega arith in
    let r : (64 * k + t) % 64 ≡ t = omega arith in
    rw (q, r)) ∙ sym (word_bits-tab 64 (get_or v k 0))

module _ (f : ℕ → Bool) (v : List ℕ) (k : ℕ) where
  -- one word more: a has the bits that f names there
  pub word_more : (a : ℕ) → get_or v k 0 < 2 ^ 64 → word_bits 64 a ≡ tab 64 (λ (t : ℕ). f (64 * k + t)) → bit_xor (bit (odd_first f v k)) (parity_of a (get_or v k 0)) ≡ bit (odd_first f v (k + 1))
  word_more a hx e =
      let x : ℕ = get_or v k 0 in
      let n : 64 * (k + 1) ≡ 64 * k + 64 = omega arith in
      let m : tab (64 * (k + 1)) f ≡ tab (64 * k) f ++ word_bits 64 a = rw n (tab_append (64 * k) 64 f ∙ ap (λ (t : List Bool). tab (64 * k) f ++ t) (sym e)) in
      let u : tab (64 * (k + 1)) (value_at v) ≡ tab (64 * k) (value_at v) ++ word_bits 64 x = rw n (tab_append (64 * k) 64 (value_at v) ∙ ap (λ (t : List Bool). tab (64 * k) (value_at v) ++ t) (own_bits v k)) in
      ap (bit_xor (bit (odd_first f v k))) (parity-bits 64 a x hx) ∙ xor_bit (odd_first f v k) (odd (word_bits 64 a) (word_bits 64 x))
      ∙ ap bit (sym (ap₂ odd m u ∙ odd_append (tab (64 * k) f) (word_bits 64 a) (tab (64 * k) (value_at v)) (word_bits 64 x) (length-tab (64 * k) f ∙ sym (length-tab (64 * k) (value_at v)))))

-- all words of a mask
whole-mask : 64 * mask_words ≡ 8 * mask_bytes
unfolding mask_bytes
whole-mask = refl

pub all_words : (s : List ℕ) (i : ℕ) (v : List ℕ) → length v ≡ mask_words → odd_first (names s i) v mask_words ≡ odd (mask s i) (held v)
unfolding mask held
all_words s i v h = ap₂ (λ (n l : ℕ). odd (tab n (names s i)) (tab (64 * l) (value_at v))) whole-mask (sym h)

-- the bits of a word of the mask
pub word_bits_lem : (s : List ℕ) (i k x : ℕ) → Spelt s i k x → word_bits 64 x ≡ tab 64 (λ (t : ℕ). names s i (64 * k + t))
word_bits_lem s i k x p = word_bits-tab 64 x ∙ tab_below 64 (has_bit x) (λ (t : ℕ). names s i (64 * k + t)) p.bits

-- ---- the values

held-length : (v : List ℕ) → length (held v) ≡ 64 * length v
unfolding held
held-length v = length-tab (64 * length v) (value_at v)

held_at : (v : List ℕ) (j : ℕ) → j < 64 * length v → get_or (held v) j false ≡ value_at v j
unfolding held
held_at v j h = tab-at (64 * length v) (value_at v) j false h

past : (l : List Bool) (j : ℕ) → length l ≤ j → get_or l j false ≡ false
past l j h = get_or-eq_default l false {n = j} h

odd-nil : (m : List Bool) → odd m [] ≡ false
odd-nil [] = refl
odd-nil (a ∷ m) = refl

and_none : (a : Bool) → (a && false) ⊕ false ≡ false
and_none a = ⊕-false (a && false) ∙ and-false a false refl

-- what the values hold at each place decides
odd_ext : (m u v : List Bool) → ((j : ℕ) → get_or u j false ≡ get_or v j false) → odd m u ≡ odd m v
odd_ext [] u v h = refl
odd_ext (a ∷ m) [] [] h = refl
odd_ext (a ∷ m) [] (y ∷ v) h = sym (ap₂ (λ (b t : Bool). (a && b) ⊕ t) (sym (h zero)) (sym (odd_ext m [] v (λ j. h (suc j))) ∙ odd-nil m) ∙ and_none a)
odd_ext (a ∷ m) (x ∷ u) [] h = ap₂ (λ (b t : Bool). (a && b) ⊕ t) (h zero) (odd_ext m u [] (λ j. h (suc j)) ∙ odd-nil m) ∙ and_none a
odd_ext (a ∷ m) (x ∷ u) (y ∷ v) h = ap₂ (λ (b t : Bool). (a && b) ⊕ t) (h zero) (odd_ext m u v (λ j. h (suc j)))

pub odd-held : (m : List Bool) (v : List ℕ) (c : List Bool) → Holds v c → odd m (held v) ≡ odd m c
odd-held m v c h = odd_ext m (held v) c h

pub holds-none : (k : ℕ) → Holds (replicate k 0) []
holds-none k j = go (dec_lt j (64 * k))
  where
    lv : length (replicate {A = ℕ} k 0) ≡ k
    lv = length-replicate k 0

    go : Dec (j < 64 * k) → get_or (held (replicate k 0)) j false ≡ false
    go (yes h) = held_at (replicate k 0) j (omega (arith, lv)) ∙ ap (λ (x : ℕ). has_bit x (j % 64)) (get_or-replicate {A = ℕ} k (j / 64) 0 0 (omega arith)) ∙ zero_bit (j % 64)
    go (no h) = past (held (replicate k 0)) j (omega (arith, held-length (replicate k 0), lv))

-- ---- one value more

-- a word with bit t flipped where b is 1
put-bit : (a t k : ℕ) (b : Bool) → has_bit (bit_xor a (bit b * 2 ^ t)) k ≡ has_bit a k ⊕ (eqb k t && b)
put-bit a t k b = has_bit_xor a (bit b * 2 ^ t) k ∙ ap (λ (c : Bool). has_bit a k ⊕ c) (own b (ℕ_discrete k t))
  where
    own : (b : Bool) → Dec (k ≡ t) → has_bit (bit b * 2 ^ t) k ≡ eqb k t && b
    own false d = rw (zero-mul (2 ^ t), and-false (eqb k t) false refl) (zero_bit k)
    own true (yes e) = rw (one-mul (2 ^ t), e, eq-eqb t t refl) (bit-same t)
    own true (no n) = rw (one-mul (2 ^ t), ne_eqb k t n) (bit_other t k n)

snoc_other : (c : List Bool) (b : Bool) (j : ℕ) → (j ≡ length c → ⊥) → get_or (c ++ (b ∷ [])) j false ≡ get_or c j false
snoc_other [] b zero h = absurd (h refl)
snoc_other [] b (suc j) h = refl
snoc_other (a ∷ c) b zero h = refl
snoc_other (a ∷ c) b (suc j) h = snoc_other c b j (λ e. h (ap suc e))

pub put-length : (v : List ℕ) (i x : ℕ) → length (put v i x) ≡ length v
put-length v i x = length-set v (i / 64) _

module _ (v : List ℕ) (c : List Bool) (b : Bool) (i : ℕ) (e : i ≡ length c) (h : i < 64 * length v) (f : Holds v c) where
  abbrev new : List ℕ
  new = put v i (bit b)

  -- bit j of the word of i
  here : (j : ℕ) → j / 64 ≡ i / 64 → value_at new j ≡ value_at v j ⊕ (eqb (j % 64) (i % 64) && b)
  here j d = rw (d, get_or-set_same v (i / 64) (bit_xor (get_or v (i / 64) 0) (bit b * 2 ^ (i % 64))) 0 (omega arith)) (put-bit (get_or v (i / 64) 0) (i % 64) (j % 64) b)

  -- i's, which was 0, is b
  own : value_at new i ≡ b
  own =
      let off : value_at v i ≡ false = sym (held_at v i h) ∙ f i ∙ past c i (omega (arith, e)) in
      here i refl ∙ ap₂ (λ (p q : Bool). p ⊕ (q && b)) off (eq-eqb (i % 64) (i % 64) refl)

  -- any other is as it was
  other : (j : ℕ) → (j ≡ i → ⊥) → value_at new j ≡ value_at v j
  other j n = go (ℕ_discrete (j / 64) (i / 64))
    where
      go : Dec (j / 64 ≡ i / 64) → value_at new j ≡ value_at v j
      go (yes d) = here j d ∙ ap (λ (q : Bool). value_at v j ⊕ (q && b)) (ne_eqb (j % 64) (i % 64) (λ m. n (omega arith))) ∙ ⊕-false _
      go (no d) = ap (λ (x : ℕ). has_bit x (j % 64)) (get_or-set_other v (i / 64) (j / 64) _ 0 d)

  pub holds_more : Holds new (c ++ (b ∷ []))
  holds_more j = go (dec_lt j (64 * length v)) (ℕ_discrete j i)
    where
      go : Dec (j < 64 * length v) → Dec (j ≡ i) → get_or (held new) j false ≡ get_or (c ++ (b ∷ [])) j false
      go (yes l) (yes p) = held_at new j (rw (put-length v i (bit b)) l) ∙ rw p (own ∙ sym (rw e (get_or-append_seam c b [] false)))
      go (yes l) (no n) = held_at new j (rw (put-length v i (bit b)) l) ∙ other j n ∙ sym (held_at v j l) ∙ f j ∙ sym (snoc_other c b j (λ p. n (p ∙ sym e)))
      go (no l) d = past (held new) j (omega (arith, held-length new, put-length v i (bit b))) ∙ sym (past (c ++ (b ∷ [])) j (omega (arith, length-append c (b ∷ []), e)))
