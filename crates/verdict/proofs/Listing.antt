-- Lists of vectors and of rows, and what the meaning reads off them.
--     map-filter                   by functions and tests that are equal on the list
--     first_of, last_of            the first and the last of a list that rises
--     common-same, common_other    a value that all have, and one that two differ at
--     tab_places, places           lists place by place
--     strips_are                   the three strips
--     verdict-none, verdict-is     the verdict on no candidates, and on 2 ^ d of them
use mathlib.Core.Path.{◌≡◌, refl, sym, ap, ap₂, ◌∙◌}
use mathlib.Core.Logic.{⊎_elim}
use Prim.Native.Nat.{ℕ, zero, suc, ◌^◌, ◌<◌}
use native.Mathlib.Omega.{arith}
use native.Mathlib.Nat.{suc_inj}
use mathlib.Core.Bool.{Bool, true, false, not}
use mathlib.Core.List.Memᴰ
use mathlib.Core.List.{List, [], ◌∷◌, ◌++◌, map, Memᴰ}
use lib.ListN.{length, get_or}
use lib.Pow.{pow_pos}
use lib.Dec.{eqb}
use borrow.Author.Tests.{ne_eqb}
use Rattle.bits.specs.Vectors.{bit, pick, all, filter, keep, tab, before, Before, Rises}
use Rattle.bits.proofs.Tests.{and_i, all_mem, not-both}
use Rattle.bits.proofs.Rising.{below_mem}
use Rattle.meaning.specs.Strips.{common, settled_at, settled, first, last, strips}
use Rattle.meaning.specs.Answers.{verdict, writing}
use Rattle.meaning.specs.declared.Answer.TheVariants.{Unique, Ambiguous}
use Rattle.meaning.proofs.Dimension.{dimension_pow}

-- ---- functions and tests that are equal on the list

pub map-filter : {A B : Type 0} (f f' : A → B) (p p' : A → Bool) (l : List A) → ((a : A) → Memᴰ a l → (f a ≡ f' a) × (p a ≡ p' a))
    → map f (filter p l) ≡ map f' (filter p' l)
map-filter f f' p p' [] h = refl
map-filter {A} {B} f f' p p' (x ∷ l) h =
    let (e, q) = h x (Memᴰ.head refl) in
    ap (λ (b : Bool). map f (keep b x (filter p l))) q ∙ go (p' x) e (map-filter f f' p p' l (λ a m. h a (Memᴰ.tail m)))
  where
    go : (b : Bool) → f x ≡ f' x → map f (filter p l) ≡ map f' (filter p' l) → map f (keep b x (filter p l)) ≡ map f' (keep b x (filter p' l))
    go true e ih = ap₂ {C = List B} ◌∷◌ e ih
    go false e ih = ih

-- ---- the first and the last

module _ (X : List Bool → List Bool) where
  pub first_of : (l : List (List Bool)) (z : List Bool) → Rises Before l → Memᴰ z l → ((y : List Bool) → Memᴰ y l → before y z ≡ false) → first (map X l) ≡ map bit (X z)
  first_of [] z r m h = absurd (Memᴰ.not-nil m)
  first_of (x ∷ l) z r m h =
      ap (λ (y : List Bool). map bit (X y))
      (⊎_elim (λ e. sym e) (λ k. absurd (not-both (below_mem Before x l r.0 z k) (h x (Memᴰ.head refl)))) (Memᴰ.cases_cons m))

  pub last_of : (l : List (List Bool)) (z : List Bool) → Rises Before l → Memᴰ z l → ((y : List Bool) → Memᴰ y l → before z y ≡ false) → last (map X l) ≡ map bit (X z)
  last_of [] z r m h = absurd (Memᴰ.not-nil m)
  last_of (x ∷ []) z r m h = ap (λ (y : List Bool). map bit (X y)) (⊎_elim (λ e. sym e) (λ k. absurd (Memᴰ.not-nil k)) (Memᴰ.cases_cons m))
  last_of (x ∷ y ∷ l) z r m h =
      ⊎_elim (λ (e : z ≡ x). absurd (not-both (ap (λ (u : List Bool). before u y) e ∙ r.0.0) (h y (Memᴰ.tail (Memᴰ.head refl)))))
      (λ k. last_of (y ∷ l) z r.1 k (λ u q. h u (Memᴰ.tail q))) (Memᴰ.cases_cons m)

-- ---- what all have

module _ {A : Type 0} where
  all_of : (p : A → Bool) (l : List A) → ((a : A) → Memᴰ a l → p a ≡ true) → all p l ≡ true
  all_of p [] h = refl
  all_of p (x ∷ l) h = and_i (p x) (all p l) (h x (Memᴰ.head refl)) (all_of p l (λ a m. h a (Memᴰ.tail m)))

  one_fails : (p : A → Bool) (l : List A) (a : A) → Memᴰ a l → p a ≡ false → all p l ≡ false
  one_fails p l a m h = go (all p l) refl
    where
      go : (b : Bool) → all p l ≡ b → all p l ≡ false
      go true e = absurd (not-both (all_mem p m e) h)
      go false e = e

  module _ (v : A → Bool) (l : List A) where
    pub common-same : (k : Bool) (a : A) → Memᴰ a l → ((b : A) → Memᴰ b l → v b ≡ k) → common (all v l) (all (λ (x : A). not (v x)) l) ≡ bit k
    common-same true a m h = rw (all_of v l h)
    common-same false a m h = rw (one_fails v l a m (h a m), all_of (λ (x : A). not (v x)) l (λ b q. ap not (h b q)))

    pub common_other : (k : Bool) (a b : A) → Memᴰ a l → Memᴰ b l → v a ≡ k → v b ≡ not k → common (all v l) (all (λ (x : A). not (v x)) l) ≡ 2
    common_other true a b m q e f = rw (one_fails v l b q f, one_fails (λ (x : A). not (v x)) l a m (ap not e))
    common_other false a b m q e f = rw (one_fails v l a m e, one_fails (λ (x : A). not (v x)) l b q (ap not f))

-- ---- place by place

module _ {A B : Type 0} (d : A) where
  pub tab_places : (m : ℕ) (f : ℕ → B) (h : A → B) (s : List A) → length s ≡ m → ((j : ℕ) → j < m → f j ≡ h (get_or s j d)) → tab m f ≡ map h s
  tab_places zero f h [] l e = refl
  tab_places zero f h (a ∷ s) l e = absurd (omega arith)
  tab_places (suc m) f h [] l e = absurd (omega arith)
  tab_places (suc m) f h (a ∷ s) l e = ap₂ {C = List B} ◌∷◌ (e zero (omega arith)) (tab_places m (λ (j : ℕ). f (suc j)) h s (suc_inj l) (λ j k. e (suc j) (omega arith)))

pub places : {A : Type 0} (d : A) (v : A → Bool) (h : A → ℕ) (r s : List A) → length s ≡ length r → ((j : ℕ) → j < length r → bit (v (get_or r j d)) ≡ h (get_or s j d))
    → map bit (map v r) ≡ map h s
places d v h [] [] l e = refl
places d v h [] (b ∷ s) l e = absurd (omega arith)
places d v h (a ∷ r) [] l e = absurd (omega arith)
places d v h (a ∷ r) (b ∷ s) l e = ap₂ {C = List ℕ} ◌∷◌ (e zero (omega arith)) (places d v h r s (suc_inj l) (λ j k. e (suc j) (omega arith)))

-- ---- the strips and the verdict

pub strips_are : (n : ℕ) (cs : List (List Bool)) → strips n cs ≡ tab (2 ^ n) (settled_at cs) ++ first cs ++ last cs
unfolding strips settled
strips_are n cs = refl

pub verdict-none : (n g m : ℕ) (cs : List (List Bool)) (out : List ℕ) → length cs ≡ 0 → verdict n g m cs out ≡ verdict n g m [] out
verdict-none n g m [] out h = refl
verdict-none n g m (x ∷ cs) out h = absurd (omega arith)

pub verdict-is : (n g m : ℕ) (cs : List (List Bool)) (out : List ℕ) (d : ℕ) → length cs ≡ 2 ^ d
    → verdict n g m cs out ≡ pick (eqb d 0) (writing (strips n cs) out (Unique g m)) (writing (strips n cs) out (Ambiguous g m d))
unfolding verdict
verdict-is n g m [] out d h = absurd (omega (arith, pow_pos d))
verdict-is n g m (x ∷ []) out zero h = refl
verdict-is n g m (x ∷ []) out (suc d) h = absurd (omega (arith, pow_pos d))
verdict-is n g m (x ∷ y ∷ cs) out zero h = absurd (omega arith)
verdict-is n g m (x ∷ y ∷ cs) out (suc d) h =
    rw (ne_eqb (suc d) 0 (λ (q : suc d ≡ 0). omega arith)) (ap (λ (k : ℕ). writing (strips n (x ∷ y ∷ cs)) out (Ambiguous g m k)) (dimension_pow (x ∷ y ∷ cs) (suc d) h))
