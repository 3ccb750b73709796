-- Lists of vectors in their order, and vectors that first part at flagged places only.
--     listed                          a map that keeps the order, and has an inverse between two tests, takes the list of one to the list of the other
--     length-picked                   as many bits as flags
--     picked-before, picked_same      the bits at the flagged places tell all, the order too
use mathlib.Core.Path.{◌≡◌, refl, sym, ap, ◌∙◌}
use Prim.Native.Nat.{ℕ, suc}
use native.Mathlib.Omega.{arith}
use native.Mathlib.Numerals.{one-add}
use native.Mathlib.Nat.{suc_inj, zero-add}
use mathlib.Core.Bool.{Bool, true, false, false≢true}
use mathlib.Core.List.Memᴰ
use mathlib.Core.List.{List, [], ◌∷◌, map, Memᴰ}
use lib.ListN.{length}
use Rattle.bits.specs.Vectors.{◌⊕◌, ones, all_bits, filter, Below, Rises, before, Before}
use Rattle.bits.proofs.Rising.{before_irr, before_trans, rises_bits, rises_filter, rises_unique, all-bits, bits-length}
use Rattle.bits.proofs.Tests.{filter_mem, mem_filter}
use Rattle.meaning.proofs.Size.{Parts, ◌▹◌}
use Rattle.model.specs.Decoded.{picked}

-- ---- the order

-- two vectors of one length, neither before the other, are equal
before_total : (u v : List Bool) → length u ≡ length v → (Before u v → ⊥) → (Before v u → ⊥) → u ≡ v
before_total [] [] l p q = refl
before_total [] (b ∷ v) l p q = absurd (omega arith)
before_total (a ∷ u) [] l p q = absurd (omega arith)
before_total (false ∷ u) (false ∷ v) l p q = ap {B = List Bool} (λ (x : List Bool). false ∷ x) (before_total u v (suc_inj l) p q)
before_total (false ∷ u) (true ∷ v) l p q = absurd (p refl)
before_total (true ∷ u) (false ∷ v) l p q = absurd (q refl)
before_total (true ∷ u) (true ∷ v) l p q = ap {B = List Bool} (λ (x : List Bool). true ∷ x) (before_total u v (suc_inj l) p q)

-- a map that keeps the order keeps lists in order
module _ {A B : Type 0} (lt : A → A → Type 0) (lt' : B → B → Type 0) (f : A → B) (P : A → Type 0) (rise : (a b : A) → P a → P b → lt a b → lt' (f a) (f b)) where
  rises_map : (l : List A) → ((a : A) → Memᴰ a l → P a) → Rises lt l → Rises lt' (map f l)
  rises_map [] h r = tt
  rises_map (x ∷ l) h r = (below l (λ a m. h a (Memᴰ.tail m)) r.0, rises_map l (λ a m. h a (Memᴰ.tail m)) r.1)
    where
      below : (m : List A) → ((a : A) → Memᴰ a m → P a) → Below lt x m → Below lt' (f x) (map f m)
      below [] k b = tt
      below (y ∷ m) k b = (rise x y (h x (Memᴰ.head refl)) (k y (Memᴰ.head refl)) b.0, below m (λ a q. k a (Memᴰ.tail q)) b.1)

-- ---- two tests, p of vectors of m bits and q of vectors of k bits, and maps there and back

module _ (m k : ℕ) (p q : List Bool → Bool) (f c : List Bool → List Bool)
    (there : (t : List Bool) → length t ≡ k → q t ≡ true → (length (f t) ≡ m) × (p (f t) ≡ true))
    (back : (u : List Bool) → length u ≡ m → p u ≡ true → (length (c u) ≡ k) × (q (c u) ≡ true) × (f (c u) ≡ u))
    (rise : (s t : List Bool) → length s ≡ k → length t ≡ k → Before s t → Before (f s) (f t)) where
  pub listed : filter p (all_bits m) ≡ map f (filter q (all_bits k))
  listed =
      let l : List (List Bool) = filter q (all_bits k) in
      let size : (t : List Bool) → Memᴰ t l → length t ≡ k = λ t h. bits-length k t (filter_mem q (all_bits k) h).0 in
      rises_unique Before before_irr before_trans (filter p (all_bits m)) (map f l) (rises_filter Before p (all_bits m) (rises_bits m))
      (rises_map Before Before f (λ t. length t ≡ k) rise l size (rises_filter Before q (all_bits k) (rises_bits k)))
      (λ u h.
      let (n, pu) = filter_mem p (all_bits m) h in
      let (lc, qc, e) = back u (bits-length m u n) pu in
      Memᴰ.cast (sym e) (Memᴰ.map f (mem_filter q (all-bits k (c u) lc) qc)))
      (λ u h.
      let (t, n, e) = Memᴰ.of_map f l h in
      let (lf, pf) = there t (size t n) (filter_mem q (all_bits k) n).1 in
      Memᴰ.cast (sym e) (mem_filter p (all-bits m (f t) lf) pf))

-- ---- the bits at flagged places

pub length-picked : (fs v : List Bool) → length fs ≡ length v → length (picked fs v) ≡ ones fs
length-picked [] v h = refl
length-picked (f ∷ fs) [] h = absurd (omega arith)
length-picked (true ∷ fs) (b ∷ v) h = ap suc (length-picked fs v (suc_inj h)) ∙ sym (one-add (ones fs))
length-picked (false ∷ fs) (b ∷ v) h = length-picked fs v (suc_inj h) ∙ sym (zero-add (ones fs))

-- of vectors that pass a test and, two by two, first part at a flagged place, these bits tell the order
pub picked-before : (fs : List Bool) (p : List Bool → Bool) → Parts p fs → (u v : List Bool) → length u ≡ length fs → length v ≡ length fs → p u ≡ true → p v ≡ true
    → before (picked fs u) (picked fs v) ≡ before u v
picked-before [] p h [] v lu lv pu pv = refl
picked-before [] p h (a ∷ u) v lu lv pu pv = absurd (omega arith)
picked-before (f ∷ fs) p h [] v lu lv pu pv = absurd (omega arith)
picked-before (f ∷ fs) p h (a ∷ u) [] lu lv pu pv = absurd (omega arith)
picked-before (f ∷ fs) p h (a ∷ u) (b ∷ v) lu lv pu pv =
    go f a b pu pv
    (λ x. picked-before fs (p ▹ x) (λ c u v a b l k q r s. h (x ∷ c) u v a b (ap suc l) k q r s) u v (suc_inj lu) (suc_inj lv))
    (h [] u v a b lu (suc_inj lu ∙ sym (suc_inj lv)) pu pv)
  where
    go : (f a b : Bool) → p (a ∷ u) ≡ true → p (b ∷ v) ≡ true → ((x : Bool) → p (x ∷ u) ≡ true → p (x ∷ v) ≡ true → before (picked fs u) (picked fs v) ≡ before u v)
        → (a ⊕ b ≡ true → f ≡ true) → before (picked (f ∷ fs) (a ∷ u)) (picked (f ∷ fs) (b ∷ v)) ≡ before (a ∷ u) (b ∷ v)
    go true false false x y ih d = ih false x y
    go true true true x y ih d = ih true x y
    go true false true x y ih d = refl
    go true true false x y ih d = refl
    go false false false x y ih d = ih false x y
    go false true true x y ih d = ih true x y
    go false false true x y ih d = absurd (false≢true (d refl))
    go false true false x y ih d = absurd (false≢true (d refl))

-- and which vector it is
pub picked_same : (fs : List Bool) (p : List Bool → Bool) → Parts p fs → (u v : List Bool) → length u ≡ length fs → length v ≡ length fs → p u ≡ true → p v ≡ true
    → picked fs u ≡ picked fs v → u ≡ v
picked_same fs p h u v lu lv pu pv e =
    before_total u v (lu ∙ sym lv)
    (λ b. before_irr (picked fs v) (sym (ap (λ (x : List Bool). before x (picked fs v)) e) ∙ picked-before fs p h u v lu lv pu pv ∙ b))
    (λ b. before_irr (picked fs v) (sym (ap (before (picked fs v)) e) ∙ picked-before fs p h v u lv lu pv pu ∙ b))
