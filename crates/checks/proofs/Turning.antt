-- The ring: a list whose first place is h, turned so that this comes first.
--     slot_near, slot_far, slot_in     where a place is
--     at-turned, length-turned         the words of the ring
--     turned-plus                      a word added at one place
--     turned-next                      a word put in for the one that goes out
--     plus_all, plus_end               a word added at several places
--     taps_all                         the places of the check polynomial's terms
--     fed_ring                         all of a shift
use mathlib.Core.Path.{◌≡◌, refl, sym, ap, ap₂, subst, ◌∙◌}
use mathlib.Core.Logic.{◌⊎◌, inl, inr, ⊎_elim}
use Prim.Native.Nat.{ℕ, suc, ◌+◌, ◌-◌, ◌≤◌, ◌<◌}
use native.Mathlib.Omega.{arith}
use mathlib.Core.Bool.{Bool, false}
use mathlib.Core.List.{List, [], ◌∷◌, ◌++◌}
use lib.ListN.{length, take, drop, get_or, set, length-set, length-append, length-drop, get_or-append, drop_of_length-le}
use lib.Seq.{get_or-append-add, get_or-drop, get_or-take, get_or_at, get_or-set_same, get_or-set_other, ext_get_or, length-take-le}
use lib.Bits.{bit_xor, xor_zero_r}
use borrow.Author.Tests.{lt-ltb, le-ltb, ne_eqb}
use Rattle.bits.specs.Vectors.{pick, tab}
use Rattle.bits.proofs.Tests.{tab-get_or, eq_or_ne, le_or_lt}
use Rattle.meaning.specs.Check.{poly}
use Rattle.checks.specs.Registers.{slot, turned, taps, plus_at, tapped, fed}
use Rattle.checks.proofs.Shifting.{no_term, fed-tapped, six_tapped, eleven_tapped}

module _ (r h j : ℕ) where
  pub slot_near : h + j < r → h + j ≡ slot r h j
  unfolding slot
  slot_near p = rw (lt-ltb (h + j) r p) refl

  pub slot_far : r ≤ h + j → h + j - r ≡ slot r h j
  unfolding slot
  slot_far p = rw (le-ltb (h + j) r p) refl

  slot_cases : ((h + j < r) × (slot r h j ≡ h + j)) ⊎ ((r ≤ h + j) × (slot r h j ≡ h + j - r))
  slot_cases = ⊎_elim (λ (p : r ≤ h + j). inr (p, sym (slot_far p))) (λ (p : h + j < r). inl (p, sym (slot_near p))) (le_or_lt r (h + j))

  pub slot_in : h < r → j ≤ r → slot r h j < r
  slot_in p q = ⊎_elim (λ (z : (h + j < r) × (slot r h j ≡ h + j)). let e = z.1 in let l = z.0 in omega arith) (λ (z : (r ≤ h + j) × (slot r h j ≡ h + j - r)). let e = z.1 in let l = z.0 in omega arith) slot_cases

-- two places of a ring are not one
slot_other : (r h i j : ℕ) → h < r → i < r → j < r → (i ≡ j → ⊥) → slot r h i ≡ slot r h j → ⊥
slot_other r h i j p q k n e =
    ⊎_elim
    (λ (a : (h + i < r) × (slot r h i ≡ h + i)).
    ⊎_elim (λ (b : (h + j < r) × (slot r h j ≡ h + j)). let a₁ = a.1 in let b₁ = b.1 in n (omega arith))
    (λ (b : (r ≤ h + j) × (slot r h j ≡ h + j - r)). let a₁ = a.1 in let b₁ = b.1 in let b₀ = b.0 in let a₀ = a.0 in omega arith) (slot_cases r h j))
    (λ (a : (r ≤ h + i) × (slot r h i ≡ h + i - r)).
    ⊎_elim (λ (b : (h + j < r) × (slot r h j ≡ h + j)). let a₁ = a.1 in let b₁ = b.1 in let b₀ = b.0 in let a₀ = a.0 in omega arith)
    (λ (b : (r ≤ h + j) × (slot r h j ≡ h + j - r)). let a₁ = a.1 in let b₁ = b.1 in let b₀ = b.0 in let a₀ = a.0 in n (omega arith)) (slot_cases r h j))
    (slot_cases r h i)

-- the place behind the first one is the first of the ring turned by one; the last of that is the first
slot_next : (r h i : ℕ) → h < r → suc i < r → slot r (slot r h 1) i ≡ slot r h (1 + i)
slot_next r h i p q =
    ⊎_elim
    (λ (a : (h + 1 < r) × (slot r h 1 ≡ h + 1)). let a₁ = a.1 in let a₀ = a.0 in
    ⊎_elim (λ (b : (slot r h 1 + i < r) × (slot r (slot r h 1) i ≡ slot r h 1 + i)). let b₁ = b.1 in let b₀ = b.0 in let z : h + 1 + i ≡ h + (1 + i) = omega arith in b₁ ∙ ap (λ (x : ℕ). x + i) a₁ ∙ z ∙ slot_near r h (1 + i) (omega arith))
    (λ (b : (r ≤ slot r h 1 + i) × (slot r (slot r h 1) i ≡ slot r h 1 + i - r)). let b₁ = b.1 in let b₀ = b.0 in let z : slot r h 1 + i - r ≡ h + (1 + i) - r = omega arith in b₁ ∙ z ∙ slot_far r h (1 + i) (omega arith)) (slot_cases r (slot r h 1) i))
    (λ (a : (r ≤ h + 1) × (slot r h 1 ≡ h + 1 - r)). let a₁ = a.1 in let a₀ = a.0 in
    let z : slot r h 1 + i ≡ h + (1 + i) - r = omega arith in
    sym (slot_near r (slot r h 1) i (omega arith)) ∙ z ∙ slot_far r h (1 + i) (omega arith))
    (slot_cases r h 1)

slot-last : (r h i : ℕ) → h < r → suc i ≡ r → slot r (slot r h 1) i ≡ h
slot-last r h i p q =
    ⊎_elim
    (λ (a : (h + 1 < r) × (slot r h 1 ≡ h + 1)). let a₁ = a.1 in let a₀ = a.0 in let z : slot r h 1 + i - r ≡ h = omega arith in sym (slot_far r (slot r h 1) i (omega arith)) ∙ z)
    (λ (a : (r ≤ h + 1) × (slot r h 1 ≡ h + 1 - r)). let a₁ = a.1 in let a₀ = a.0 in let z : slot r h 1 + i ≡ h = omega arith in sym (slot_near r (slot r h 1) i (omega arith)) ∙ z)
    (slot_cases r h 1)

-- ---- the words of the ring

module _ (p : List ℕ) (h : ℕ) (hh : h < length p) where
  parts : (length (drop h p) ≡ length p - h) × (length (take h p) ≡ h)
  parts = (length-drop h p, length-take-le h p (omega arith))

  pub length-turned : length (turned p h) ≡ length p
  length-turned = let (a, b) = parts in length-append (drop h p) (take h p) ∙ omega arith

  pub at-turned : (j : ℕ) → j < length p → get_or (turned p h) j 0 ≡ get_or p (slot (length p) h j) 0
  at-turned j l =
      let (a, b) = parts in
      ⊎_elim
      (λ (z : (h + j < length p) × (slot (length p) h j ≡ h + j)). let z₀ = z.0 in
      get_or-append (drop h p) (take h p) 0 j (omega arith) ∙ get_or-drop h p j 0 ∙ ap (λ (x : ℕ). get_or p x 0) (sym z.1))
      (λ (z : (length p ≤ h + j) × (slot (length p) h j ≡ h + j - length p)). let z₀ = z.0 in
      let t : ℕ = h + j - length p in
      let e : j ≡ length (drop h p) + t = omega arith in
      ap (λ (x : ℕ). get_or (turned p h) x 0) e ∙ get_or-append-add (drop h p) (take h p) t 0 ∙ get_or-take h p t 0 (omega arith) ∙ ap (λ (x : ℕ). get_or p x 0) (sym z.1))
      (slot_cases (length p) h j)

  -- as a word that is read
  pub ring_word : (j x : ℕ) → j < length p → x ≡ slot (length p) h j → get_or p x 0 ≡ get_or (turned p h) j 0
  ring_word j x l e = ap (λ (y : ℕ). get_or p y 0) e ∙ sym (at-turned j l)

  pub first-turned : get_or (turned p h) 0 0 ≡ get_or p h 0
  first-turned =
      let z : h + 0 < length p = omega arith in
      let e : h + 0 ≡ h = omega arith in
      at-turned 0 (omega arith) ∙ ap (λ (x : ℕ). get_or p x 0) (sym (slot_near (length p) h 0 z) ∙ e)

-- a word written at one place
turned_set : (p : List ℕ) (h j z : ℕ) → h < length p → j < length p → turned (set p (slot (length p) h j) z) h ≡ set (turned p h) j z
turned_set p h j z a b =
    let r = length p in
    let x = slot r h j in
    let ls : length (set p x z) ≡ r = length-set p x z in
    let a' : h < length (set p x z) = omega arith in
    let lt = length-turned p h a in
    let x< : x < r = slot_in r h j a (omega arith) in
    ext_get_or 0 (turned (set p x z) h) (set (turned p h) j z) (length-turned (set p x z) h a' ∙ ls ∙ sym (length-set (turned p h) j z ∙ lt))
    (λ i l.
    let l₁ = length-turned (set p x z) h a' in
    let i< : i < r = omega arith in
    let s : get_or (turned (set p x z) h) i 0 ≡ get_or (set p x z) (slot r h i) 0 = at-turned (set p x z) h a' i (omega arith) ∙ ap (λ (m : ℕ). get_or (set p x z) (slot m h i) 0) ls in
    ⊎_elim
    (λ (q : i ≡ j). s ∙ ap (λ (m : ℕ). get_or (set p x z) (slot r h m) 0) q ∙ get_or-set_same p x z 0 x< ∙ sym (ap (λ (m : ℕ). get_or (set (turned p h) j z) m 0) q ∙ get_or-set_same (turned p h) j z 0 (omega arith)))
    (λ (n : i ≡ j → ⊥). s ∙ get_or-set_other p x (slot r h i) z 0 (slot_other r h i j a i< b n) ∙ sym (get_or-set_other (turned p h) j i z 0 n ∙ at-turned p h a i i<))
    (eq_or_ne i j))

pub turned-plus : (p : List ℕ) (h j x o : ℕ) → h < length p → j < length p → x ≡ slot (length p) h j → turned (set p x (bit_xor (get_or p x 0) o)) h ≡ plus_at (turned p h) j o
turned-plus p h j x o a b e =
    ap (λ (y : ℕ). turned (set p y (bit_xor (get_or p y 0) o)) h) e ∙ turned_set p h j (bit_xor (get_or p (slot (length p) h j) 0) o) a b
    ∙ ap (λ (y : ℕ). set (turned p h) j (bit_xor y o)) (sym (at-turned p h a j b))

-- the word that goes out makes room for the one that comes in
turned-next : (p : List ℕ) (h b g : ℕ) → h < length p → g ≡ slot (length p) h 1 → turned (set p h b) g ≡ drop 1 (turned p h) ++ (b ∷ [])
turned-next p h b g a e =
    let r = length p in
    let ls : length (set p h b) ≡ r = length-set p h b in
    let g< : g < r = omega (arith, e, slot_in r h 1 a (omega arith)) in
    let g' : g < length (set p h b) = omega arith in
    let lt = length-turned p h a in
    let ld : length (drop 1 (turned p h)) ≡ r - 1 = length-drop 1 (turned p h) ∙ ap (λ (m : ℕ). m - 1) lt in
    let le = length-append (drop 1 (turned p h)) (b ∷ []) in
    let l₁ = length-turned (set p h b) g g' in
    ext_get_or 0 (turned (set p h b) g) (drop 1 (turned p h) ++ (b ∷ [])) (omega (arith, le, ls, ld, l₁))
    (λ i l.
    let i< : i < r = omega arith in
    let s : get_or (turned (set p h b) g) i 0 ≡ get_or (set p h b) (slot r (slot r h 1) i) 0 =
    at-turned (set p h b) g g' i (omega arith) ∙ ap₂ (λ (m q : ℕ). get_or (set p h b) (slot m q i) 0) ls e in
    ⊎_elim
    (λ (q : r ≤ suc i).
    let z : suc i ≡ r = omega arith in
    let t : length (drop 1 (turned p h)) ≡ i = omega arith in
    s ∙ ap (λ (m : ℕ). get_or (set p h b) m 0) (slot-last r h i a z) ∙ get_or-set_same p h b 0 a ∙ sym (get_or_at (drop 1 (turned p h)) b [] 0 i t))
    (λ (q : suc i < r).
    let d : slot r h (1 + i) ≡ h → ⊥ = λ z. slot_other r h (1 + i) 0 a (omega arith) (omega arith) (λ y. omega arith) (z ∙ first) in
    s ∙ ap (λ (m : ℕ). get_or (set p h b) m 0) (slot_next r h i a q) ∙ get_or-set_other p h (slot r h (1 + i)) b 0 d
    ∙ sym (get_or-append (drop 1 (turned p h)) (b ∷ []) 0 i (omega arith) ∙ get_or-drop 1 (turned p h) i 0 ∙ at-turned p h a (1 + i) (omega arith)))
    (le_or_lt r (suc i)))
  where
    first : h ≡ slot (length p) h 0
    first = let z : h ≡ h + 0 = omega arith in z ∙ slot_near (length p) h 0 (omega arith)

-- ---- the terms

-- the word added at each of these places
abbrev pub plus_all : List ℕ → List ℕ → ℕ → List ℕ
plus_all s [] o = s
plus_all s (j ∷ js) o = plus_all (plus_at s j o) js o

pub plus_end : (s js : List ℕ) (o i : ℕ) → length js ≤ i → plus_all s (drop i js) o ≡ s
plus_end s js o i h = rw (drop_of_length-le js {i = i} h)

taps_none : (r : ℕ) (s : List ℕ) (o : ℕ) → length s ≡ r → (r ≡ 6 → ⊥) → (r ≡ 11 → ⊥) → s ≡ tapped r s o
taps_none r s o l a b =
    let f : ℕ → ℕ = λ j. bit_xor (get_or s j 0) (pick (get_or (poly r) j false) o 0) in
    sym (ap (λ (m : ℕ). tab m f) (sym l) ∙ tab-get_or s 0 f (λ j h.
    let t : get_or (poly r) j false ≡ false = no_term r j a b (omega arith) in
    ap (λ (x : Bool). bit_xor (get_or s j 0) (pick x o 0)) t ∙ xor_zero_r (get_or s j 0)))

pub taps_all : (r : ℕ) (s : List ℕ) (o : ℕ) → length s ≡ r → plus_all s (taps r) o ≡ tapped r s o
taps_all r s o l = ⊎_elim six (λ a. ⊎_elim eleven (none a) (eq_or_ne r 11)) (eq_or_ne r 6)
  where
    six : r ≡ 6 → plus_all s (taps r) o ≡ tapped r s o
    six e = subst (λ (m : ℕ). plus_all s (taps m) o ≡ tapped m s o) (sym e) (six_tapped s o (l ∙ e))

    eleven : r ≡ 11 → plus_all s (taps r) o ≡ tapped r s o
    eleven e = subst (λ (m : ℕ). plus_all s (taps m) o ≡ tapped m s o) (sym e) (eleven_tapped s o (l ∙ e))

    none : (r ≡ 6 → ⊥) → (r ≡ 11 → ⊥) → plus_all s (taps r) o ≡ tapped r s o
    none a b = rw (ne_eqb r 6 a, ne_eqb r 11 b) (taps_none r s o l a b)

-- ---- a shift

pub fed_ring : (p : List ℕ) (h b g r : ℕ) (s : List ℕ) → length p ≡ r → h < r → g ≡ slot r h 1
    → s ≡ tapped r (turned (set p h b) g) (get_or p h 0) → s ≡ fed r (turned p h) b
fed_ring p h b g r s l a e q =
    let f = turned-next p h b g (omega arith) (e ∙ ap (λ (m : ℕ). slot m h 1) (sym l)) in
    q ∙ ap₂ (tapped r) f (sym (first-turned p h (omega arith)))
    ∙ fed-tapped r (turned p h) b (length-turned p h (omega arith) ∙ l) (omega arith)
