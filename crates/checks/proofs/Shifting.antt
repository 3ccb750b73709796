-- The shift register over words, and the loops that run it.
--     no_term                  there are check polynomials of length 6 and 11 alone
--     fed-is, checks-is        the code's register is the model's, over words
--     fed-tapped, ..-tapped    a shift is a move and then the terms, one by one
--     Dividing, dividing-..    the free positions of a column, fed so far
use mathlib.Core.Path.{◌≡◌, refl, sym, ap, ap₂, ◌∙◌}
use Prim.Native.Nat.{ℕ, zero, suc, ◌+◌, ◌*◌, ◌≤◌, ◌<◌}
use native.Mathlib.Omega.{arith}
use native.Mathlib.Numerals.{add-one}
use mathlib.Core.Bool.{Bool, true, false}
use mathlib.Core.List.{List, [], ◌∷◌, ◌++◌, append-nil, append_assoc}
use lib.ListN.{get_or-append, length, drop, get_or, replicate, length-append, length-map, length-replicate, drop_of_length-le}
use lib.Seq.{get_or_at, ext_get_or, drop-cons}
use lib.Dec.{eqb, ltb}
use lib.Bits.{bit_xor, xor_zero_r}
use borrow.Author.Tests.{ne_eqb, ltb-true, ltb-false}
use Rattle.bits.specs.Vectors.{pick, tab}
use Rattle.bits.proofs.Tests.{length-tab, tab-at, tab_below}
use Rattle.meaning.specs.Limits.{leads}
use Rattle.meaning.specs.Sheet.{Rule, rule_at, byte}
use Rattle.meaning.specs.Check.{poly}
use Rattle.meaning.proofs.Remainder.{length-poly}
use Rattle.model.specs.Model.{free_of, sums, scaled, shift_of, rest_of, checks}
use Rattle.sheet.proofs.Records.{rule_free, rule_frozen, rules-at}
use Rattle.checks.specs.Registers.{word_values, unit_word, column, moved, fed_at, fed, tapped, plus_at, fed_all, remainder}

-- ---- the polynomial

pub no_term : (r j : ℕ) → (r ≡ 6 → ⊥) → (r ≡ 11 → ⊥) → j < r → get_or (poly r) j false ≡ false
unfolding poly
no_term r j a b h = rw (ne_eqb r 6 a, ne_eqb r 11 b) (tab-at r (λ (k : ℕ). false) j false h)

-- ---- the model's register

length-fed : (r : ℕ) (s : List ℕ) (b : ℕ) → length (fed r s b) ≡ r
unfolding fed
length-fed r s b = length-tab r _

module _ (unit : ℕ) where
  length-sums : (a b : List ℕ) → length a ≡ length b → length (sums (word_values unit) a b) ≡ length a
  length-sums [] b e = refl
  length-sums (x ∷ a) [] e = absurd (omega arith)
  length-sums (x ∷ a) (y ∷ b) e = ap suc (length-sums a b (omega arith))

  get_or-sums : (a b : List ℕ) (j : ℕ) → length a ≡ length b → j < length a → get_or (sums (word_values unit) a b) j 0 ≡ bit_xor (get_or a j 0) (get_or b j 0)
  get_or-sums [] b j e h = absurd (omega arith)
  get_or-sums (x ∷ a) [] j e h = absurd (omega arith)
  get_or-sums (x ∷ a) (y ∷ b) zero e h = refl
  get_or-sums (x ∷ a) (y ∷ b) (suc j) e h = get_or-sums a b j (omega arith) (omega arith)

  get_or-scaled : (g : List Bool) (o j : ℕ) → j < length g → get_or (scaled (word_values unit) g o) j 0 ≡ pick (get_or g j false) o 0
  get_or-scaled [] o j h = absurd (omega arith)
  get_or-scaled (true ∷ g) o zero h = refl
  get_or-scaled (false ∷ g) o zero h = refl
  get_or-scaled (x ∷ g) o (suc j) h = get_or-scaled g o j (omega arith)

  -- the words behind the first, and the new one
  moved_at : (x : ℕ) (s : List ℕ) (b j : ℕ) → j < suc (length s) → get_or (s ++ (b ∷ [])) j 0 ≡ moved (x ∷ s) b j
  moved_at x s b j h = go (ltb (j + 1) (suc (length s))) refl
    where
      go : (t : Bool) → ltb (j + 1) (suc (length s)) ≡ t → get_or (s ++ (b ∷ [])) j 0 ≡ pick t (get_or (x ∷ s) (j + 1) 0) b
      go true e = let i = ltb-true (j + 1) (suc (length s)) e in rw (add-one j) (get_or-append s (b ∷ []) 0 j (omega arith))
      go false e = let i = ltb-false (j + 1) (suc (length s)) e in get_or_at s b [] 0 j (omega arith)

  pub fed-is : (r : ℕ) (s : List ℕ) (b : ℕ) → length s ≡ r → shift_of (word_values unit) (poly r) s b ≡ fed r s b
  unfolding fed
  fed-is zero [] b e = refl
  fed-is (suc r) [] b e = absurd (omega arith)
  fed-is r (o ∷ s) b e =
      let x = s ++ (b ∷ []) in
      let y = scaled (word_values unit) (poly r) o in
      let ly : length y ≡ r = length-map (poly r) _ ∙ length-poly r in
      let lx : length x ≡ r = length-append s (b ∷ []) ∙ omega arith in
      let le : length (sums (word_values unit) x y) ≡ r = length-sums x y (lx ∙ sym ly) ∙ lx in
      ext_get_or 0 (sums (word_values unit) x y) (tab r (fed_at r (o ∷ s) b o)) (le ∙ sym (length-tab r (fed_at r (o ∷ s) b o)))
      (λ j h.
      let i : j < r = omega arith in
      get_or-sums x y j (lx ∙ sym ly) (omega arith)
      ∙ ap₂ bit_xor (moved_at o s b j (omega arith)) (get_or-scaled (poly r) o j (omega (arith, length-poly r)))
      ∙ sym (tab-at r (fed_at r (o ∷ s) b o) j 0 i))

  rest-is : (r : ℕ) (s v : List ℕ) → length s ≡ r → rest_of (word_values unit) (poly r) s v ≡ fed_all r s v
  rest-is r s [] e = refl
  rest-is r s (b ∷ v) e = ap (λ (x : List ℕ). rest_of (word_values unit) (poly r) x v) (fed-is r s b e) ∙ rest-is r (fed r s b) v (length-fed r s b)

  -- the check's ones, over words: the one place of the crate where the value of `leads` is used
  leads_are : (r : ℕ) → scaled (word_values unit) (leads r) unit ≡ replicate r unit
  unfolding leads
  leads_are zero = refl
  leads_are (suc r) = ap {B = List ℕ} (λ l. unit ∷ l) (leads_are r)

  sums-nought : (x : List ℕ) (g : List Bool) → length x ≡ length g → sums (word_values unit) x (scaled (word_values unit) g 0) ≡ x
  sums-nought [] g e = refl
  sums-nought (a ∷ x) [] e = absurd (omega arith)
  sums-nought (a ∷ x) (true ∷ g) e = ap₂ {C = List ℕ} ◌∷◌ (xor_zero_r a) (sums-nought x g (omega arith))
  sums-nought (a ∷ x) (false ∷ g) e = ap₂ {C = List ℕ} ◌∷◌ (xor_zero_r a) (sums-nought x g (omega arith))

  -- words that are shifted in below a run of zeros, as long as they are, stay
  fills : (r : ℕ) (d l v : List ℕ) → length l + length d ≡ r → rest_of (word_values unit) (poly r) (replicate (length l) 0 ++ d) (l ++ v) ≡ rest_of (word_values unit) (poly r) (d ++ l) v
  fills r d [] v e = ap (λ (s : List ℕ). rest_of (word_values unit) (poly r) s v) (sym (append-nil d))
  fills r d (b ∷ l) v e =
      let s : List ℕ = replicate (length l) 0 ++ d in
      let ls : length (s ++ (b ∷ [])) ≡ length (poly r) = simp (length-append, length-replicate) (omega (arith, length-poly r)) in
      ap (λ (t : List ℕ). rest_of (word_values unit) (poly r) t (l ++ v)) (sums-nought (s ++ (b ∷ [])) (poly r) ls ∙ append_assoc (replicate (length l) 0) d (b ∷ []))
      ∙ fills r (d ++ (b ∷ [])) l v (simp length-append (omega arith)) ∙ ap (λ (t : List ℕ). rest_of (word_values unit) (poly r) t v) (append_assoc d (b ∷ []) l)

  pub checks-is : (r : ℕ) (ks : List Rule) (v : List ℕ) → checks (word_values unit) r ks v ≡ fed_all r (replicate r unit) (free_of ks v)
  checks-is r ks v =
      let o : List ℕ = replicate r unit in
      let lo : length o ≡ r = length-replicate r unit in
      ap (λ (l : List ℕ). rest_of (word_values unit) (poly r) (replicate r 0) (l ++ free_of ks v)) (leads_are r)
      ∙ ap (λ (s : List ℕ). rest_of (word_values unit) (poly r) s (o ++ free_of ks v)) (ap (λ (m : ℕ). replicate m 0) (sym lo) ∙ sym (append-nil (replicate (length o) 0)))
      ∙ fills r [] o (free_of ks v) (omega arith) ∙ rest-is r o (free_of ks v) lo

length-fed_all : (r : ℕ) (s v : List ℕ) → length s ≡ r → length (fed_all r s v) ≡ r
length-fed_all r s [] e = e
length-fed_all r s (b ∷ v) e = length-fed_all r (fed r s b) v (length-fed r s b)

pub length-remainder : (r : ℕ) (sheet : List ℕ) (n : ℕ) (us : List ℕ) (w c k : ℕ) → length (remainder r sheet n us w c k) ≡ r
unfolding remainder
length-remainder r sheet n us w c k = length-fed_all r (replicate r (unit_word c k)) (free_of (tab n (rule_at sheet)) (column w n us k)) (length-replicate r (unit_word c k))

-- ---- the shift, and then the terms

pub fed-tapped : (r : ℕ) (s : List ℕ) (b : ℕ) → length s ≡ r → 0 < r → tapped r (drop 1 s ++ (b ∷ [])) (get_or s 0 0) ≡ fed r s b
unfolding fed
fed-tapped r [] b e p = absurd (omega arith)
fed-tapped r (o ∷ s) b e p =
    tab_below r (λ (j : ℕ). bit_xor (get_or (s ++ (b ∷ [])) j 0) (pick (get_or (poly r) j false) o 0)) (fed_at r (o ∷ s) b o)
    (λ j h. ap (λ (x : ℕ). bit_xor x (pick (get_or (poly r) j false) o 0)) (moved_at 0 o s b j (omega arith)))

pub six_tapped : (s : List ℕ) (o : ℕ) → length s ≡ 6 → plus_at (plus_at s 0 o) 5 o ≡ tapped 6 s o
unfolding poly
six_tapped (x₀ ∷ x₁ ∷ x₂ ∷ x₃ ∷ x₄ ∷ x₅ ∷ []) o e = simp xor_zero_r
six_tapped [] o e = absurd (omega arith)
six_tapped (x₀ ∷ []) o e = absurd (omega arith)
six_tapped (x₀ ∷ x₁ ∷ []) o e = absurd (omega arith)
six_tapped (x₀ ∷ x₁ ∷ x₂ ∷ []) o e = absurd (omega arith)
six_tapped (x₀ ∷ x₁ ∷ x₂ ∷ x₃ ∷ []) o e = absurd (omega arith)
six_tapped (x₀ ∷ x₁ ∷ x₂ ∷ x₃ ∷ x₄ ∷ []) o e = absurd (omega arith)
six_tapped (x₀ ∷ x₁ ∷ x₂ ∷ x₃ ∷ x₄ ∷ x₅ ∷ x₆ ∷ s) o e = absurd (omega arith)

pub eleven_tapped : (s : List ℕ) (o : ℕ) → length s ≡ 11 → plus_at (plus_at (plus_at (plus_at s 0 o) 1 o) 5 o) 10 o ≡ tapped 11 s o
unfolding poly
eleven_tapped (x₀ ∷ x₁ ∷ x₂ ∷ x₃ ∷ x₄ ∷ x₅ ∷ x₆ ∷ x₇ ∷ x₈ ∷ x₉ ∷ y₀ ∷ []) o e = simp xor_zero_r
eleven_tapped (x₀ ∷ []) o e = absurd (omega arith)
eleven_tapped (x₀ ∷ x₁ ∷ []) o e = absurd (omega arith)
eleven_tapped (x₀ ∷ x₁ ∷ x₂ ∷ []) o e = absurd (omega arith)
eleven_tapped (x₀ ∷ x₁ ∷ x₂ ∷ x₃ ∷ []) o e = absurd (omega arith)
eleven_tapped (x₀ ∷ x₁ ∷ x₂ ∷ x₃ ∷ x₄ ∷ []) o e = absurd (omega arith)
eleven_tapped (x₀ ∷ x₁ ∷ x₂ ∷ x₃ ∷ x₄ ∷ x₅ ∷ []) o e = absurd (omega arith)
eleven_tapped (x₀ ∷ x₁ ∷ x₂ ∷ x₃ ∷ x₄ ∷ x₅ ∷ x₆ ∷ []) o e = absurd (omega arith)
eleven_tapped (x₀ ∷ x₁ ∷ x₂ ∷ x₃ ∷ x₄ ∷ x₅ ∷ x₆ ∷ x₇ ∷ []) o e = absurd (omega arith)
eleven_tapped (x₀ ∷ x₁ ∷ x₂ ∷ x₃ ∷ x₄ ∷ x₅ ∷ x₆ ∷ x₇ ∷ x₈ ∷ []) o e = absurd (omega arith)
eleven_tapped (x₀ ∷ x₁ ∷ x₂ ∷ x₃ ∷ x₄ ∷ x₅ ∷ x₆ ∷ x₇ ∷ x₈ ∷ x₉ ∷ []) o e = absurd (omega arith)
eleven_tapped [] o e = absurd (omega arith)
eleven_tapped (x₀ ∷ x₁ ∷ x₂ ∷ x₃ ∷ x₄ ∷ x₅ ∷ x₆ ∷ x₇ ∷ x₈ ∷ x₉ ∷ y₀ ∷ y₁ ∷ s) o e = absurd (omega arith)

-- ---- the free positions of a column, fed one after the other

module _ (r : ℕ) (sheet : List ℕ) (n : ℕ) (us : List ℕ) (w c k : ℕ) where
  abbrev ks : List Rule
  ks = tab n (rule_at sheet)

  abbrev vs : List ℕ
  vs = column w n us k

  -- what is left to feed, when i positions are done
  pub record Dividing (reg : List ℕ) (i : ℕ) : Type 0 where
    pub left : fed_all r reg (free_of (drop i ks) (drop i vs)) ≡ remainder r sheet n us w c k

  pub dividing-none : (reg : List ℕ) → reg ≡ replicate r (unit_word c k) → Dividing reg 0
  unfolding remainder
  dividing-none reg e = record { left = ap (λ (s : List ℕ). fed_all r s (free_of ks vs)) e }

  words-at : (i : ℕ) → i < n → drop i vs ≡ get_or us (i * w + k) 0 ∷ drop (suc i) vs
  words-at i h =
      let f : ℕ → ℕ = λ x. get_or us (x * w + k) 0 in
      drop-cons vs i 0 (omega (arith, length-tab n f)) ∙ ap {B = List ℕ} (λ x. x ∷ drop (suc i) vs) (tab-at n f i 0 h)

  module _ (reg : List ℕ) (i : ℕ) {t : Bool} (p : Dividing reg i) (h : i < n) (e : t ≡ eqb (byte sheet i 0) 0) where
    pub dividing-free : t ≡ true → (reg' : List ℕ) → reg' ≡ fed r reg (get_or us (i * w + k) 0) → Dividing reg' (i + 1)
    dividing-free z reg' q =
        let cut : free_of (drop i ks) (drop i vs) ≡ get_or us (i * w + k) 0 ∷ free_of (drop (suc i) ks) (drop (suc i) vs) = rw (rules-at sheet n i h, rule_free sheet i e z, words-at i h) in
        record { left = rw (add-one i, q) (sym (ap (fed_all r reg) cut) ∙ p.left) }

    pub dividing-frozen : t ≡ false → Dividing reg (i + 1)
    dividing-frozen z =
        let cut : free_of (drop i ks) (drop i vs) ≡ free_of (drop (suc i) ks) (drop (suc i) vs) = rw (rules-at sheet n i h, rule_frozen sheet i e z, words-at i h) in
        record { left = rw (add-one i) (sym (ap (fed_all r reg) cut) ∙ p.left) }

  pub dividing-all : (reg : List ℕ) (i : ℕ) → Dividing reg i → n ≤ i → reg ≡ remainder r sheet n us w c k
  dividing-all reg i p h =
      let a : drop i ks ≡ [] = drop_of_length-le ks {i = i} (omega (arith, length-tab n (rule_at sheet))) in
      sym (ap (λ (l : List Rule). fed_all r reg (free_of l (drop i vs))) a) ∙ p.left
