-- The candidates of a word w' that is w with some erased symbols filled in.
--     among             they are among those of w, in the same order
--     fewer             and no more
--     settled-kept      a place that is settled for w keeps its value, as long as a codeword agrees with w'
--     narrowed          the first of them is that of w or comes after it, the last is that of w or comes before it
--     fewer_by_fetching     where they are fewer and not none, a place that was not settled for w has been filled in
--     as_settled        a settled place is filled in as it was settled, or none agrees
--     all_left          where only settled places were filled in, as they were settled, all are left
use mathlib.Core.Path.{◌≡◌, refl, sym, ap, ◌∙◌}
use mathlib.Core.Logic.{◌⊎◌, inl, inr, ⊎_elim}
use Prim.Native.Nat.{ℕ, zero, suc, ◌^◌, ◌≤◌, ◌<◌}
use native.Mathlib.Omega.{arith}
use mathlib.Core.Bool.{Bool, true, false, not, false≢true, true≢false}
use mathlib.Core.List.{List, [], ◌∷◌, map, Sublistᴰ, Memᴰ}
use lib.ListN.{length, get_or}
use borrow.Author.Tests.{not-true, not-false}
use Rattle.bits.specs.Vectors.{bit, all, Rises}
use Rattle.bits.proofs.Tests.{and_l, and_r, and_i, sub-filter, all_mem, not-all}
use Rattle.bits.proofs.Rising.{below_mem}
use Rattle.meaning.specs.Codewords.{fits, agrees, codewords, candidates}
use Rattle.meaning.specs.Sheet.{Rule}
use Rattle.meaning.specs.Strips.{common, settled_at, first, last}
use Rattle.meaning.proofs.Candidates.{Earlier, candidates_rise, candidate_iff, candidates_unique}
use Rattle.meaning.proofs.Demands.{head_in}
use Rattle.meaning.proofs.ReadBack.{ones_back}
use Rattle.planning.specs.Filled.{filled_in}
use Rattle.planning.specs.MoreKnown.{NotLater}
use Rattle.planning.proofs.Words.{filled-long, agrees_at, agrees-before, contrary}

-- ---- parts of a list, in its order

module _ {A : Type 0} where
  pub sub_mem : {l m : List A} → Sublistᴰ l m → {a : A} → Memᴰ a l → Memᴰ a m
  sub_mem Sublistᴰ.slnil k = k
  sub_mem (Sublistᴰ.cons s) k = mathlib.Core.List.Memᴰ.tail (sub_mem s k)
  sub_mem (Sublistᴰ.cons-cons e s) (mathlib.Core.List.Memᴰ.head q) = mathlib.Core.List.Memᴰ.head (q ∙ e)
  sub_mem (Sublistᴰ.cons-cons e s) (mathlib.Core.List.Memᴰ.tail k) = mathlib.Core.List.Memᴰ.tail (sub_mem s k)

  pub sub-length : {l m : List A} → Sublistᴰ l m → length l ≤ length m
  sub-length Sublistᴰ.slnil = omega arith
  sub-length (Sublistᴰ.cons s) = omega (arith, sub-length s)
  sub-length (Sublistᴰ.cons-cons e s) = omega (arith, sub-length s)

  pub sub-all : (p : A → Bool) {l m : List A} → Sublistᴰ l m → all p m ≡ true → all p l ≡ true
  sub-all p Sublistᴰ.slnil h = refl
  sub-all p (Sublistᴰ.cons {a = x} {l₂ = m} s) h = sub-all p s (and_r (p x) (all p m) h)
  sub-all p (Sublistᴰ.cons-cons {b = x} {l₂ = m} e s) h = and_i _ _ (ap p e ∙ and_l (p x) (all p m) h) (sub-all p s (and_r (p x) (all p m) h))

-- ---- settled places

-- not all of a list with a member hold 1 if all hold 0
not-both : (l : List (List Bool)) (j : ℕ) → 0 < length l → all (λ (x : List Bool). not (get_or x j false)) l ≡ true → all (λ (x : List Bool). get_or x j false) l ≡ false
not-both [] j h k = absurd (omega arith)
not-both (x ∷ l) j h k = rw (not-true (get_or x j false) (and_l (not (get_or x j false)) _ k))

sub-settled : (l m : List (List Bool)) → Sublistᴰ l m → 0 < length l → (j : ℕ) → (settled_at m j ≡ 2 → ⊥) → settled_at l j ≡ settled_at m j
sub-settled l m s h j k = go (all (λ (x : List Bool). get_or x j false) m) (all (λ (x : List Bool). not (get_or x j false)) m) refl refl k
  where
    go : (a b : Bool) → all (λ (x : List Bool). get_or x j false) m ≡ a → all (λ (x : List Bool). not (get_or x j false)) m ≡ b → (common a b ≡ 2 → ⊥) → settled_at l j ≡ common a b
    go true b p q k = rw (sub-all (λ (x : List Bool). get_or x j false) s p)
    go false true p q k =
        let z = sub-all (λ (x : List Bool). not (get_or x j false)) s q in
        rw (not-both l j h z, z)
    go false false p q k = absurd (k refl)

-- two of the list that differ at a place
parted : (l : List (List Bool)) (j : ℕ) {x y : List Bool} → Memᴰ x l → Memᴰ y l → get_or x j false ≡ true → get_or y j false ≡ false → settled_at l j ≡ 2
parted l j {x} {y} mx my p q = go (all (λ (x : List Bool). get_or x j false) l) (all (λ (x : List Bool). not (get_or x j false)) l) refl refl
  where
    go : (a b : Bool) → all (λ (x : List Bool). get_or x j false) l ≡ a → all (λ (x : List Bool). not (get_or x j false)) l ≡ b → common a b ≡ 2
    go true b e f = absurd (true≢false (sym (all_mem (λ (x : List Bool). get_or x j false) my e) ∙ q))
    go false true e f = absurd (true≢false (sym (all_mem (λ (x : List Bool). not (get_or x j false)) mx f) ∙ ap not p))
    go false false e f = refl

-- what was read there, v, fits the one and not the other
apart : (l : List (List Bool)) (j v : ℕ) → v < 2 → {x y : List Bool} → Memᴰ x l → Memᴰ y l → fits v (get_or x j false) ≡ false → fits v (get_or y j false) ≡ true → settled_at l j ≡ 2
apart l j zero h mx my p q = parted l j mx my (not-false _ p) (not-true _ q)
apart l j (suc zero) h mx my p q = parted l j my mx q p
apart l j (suc (suc v)) h mx my p q = absurd (omega arith)

-- a settled place holds its value in each
settled_in_lem : (l : List (List Bool)) (j : ℕ) {x : List Bool} → Memᴰ x l → (v : ℕ) → v < 2 → v ≡ settled_at l j → fits v (get_or x j false) ≡ true
settled_in_lem l j {x} m v h e = go (all (λ (x : List Bool). get_or x j false) l) (all (λ (x : List Bool). not (get_or x j false)) l) refl refl e
  where
    go : (a b : Bool) → all (λ (x : List Bool). get_or x j false) l ≡ a → all (λ (x : List Bool). not (get_or x j false)) l ≡ b → v ≡ common a b → fits v (get_or x j false) ≡ true
    go true b p q k = rw k (all_mem (λ (x : List Bool). get_or x j false) m p)
    go false true p q k = rw k (all_mem (λ (x : List Bool). not (get_or x j false)) m q)
    go false false p q k = absurd (omega arith)

-- a value that fits one of them is that of a settled place
fitting : (l : List (List Bool)) (j v : ℕ) → v < 2 → (settled_at l j ≡ 2 → ⊥) → {x : List Bool} → Memᴰ x l → fits v (get_or x j false) ≡ true → v ≡ settled_at l j
fitting l j v h u {x} m e = go (all (λ (x : List Bool). get_or x j false) l) (all (λ (x : List Bool). not (get_or x j false)) l) refl refl u
  where
    one : (v : ℕ) → v < 2 → get_or x j false ≡ true → fits v (get_or x j false) ≡ true → v ≡ 1
    one zero h p e = absurd (false≢true (ap not (sym p) ∙ e))
    one (suc zero) h p e = refl
    one (suc (suc v)) h p e = absurd (omega arith)

    none : (v : ℕ) → v < 2 → get_or x j false ≡ false → fits v (get_or x j false) ≡ true → v ≡ 0
    none zero h p e = refl
    none (suc zero) h p e = absurd (false≢true (sym p ∙ e))
    none (suc (suc v)) h p e = absurd (omega arith)

    go : (a b : Bool) → all (λ (x : List Bool). get_or x j false) l ≡ a → all (λ (x : List Bool). not (get_or x j false)) l ≡ b → (common a b ≡ 2 → ⊥) → v ≡ common a b
    go true b p q k = one v h (all_mem (λ (x : List Bool). get_or x j false) m p) e
    go false true p q k = none v h (not-true _ (all_mem (λ (x : List Bool). not (get_or x j false)) m q)) e
    go false false p q k = absurd (k refl)

-- ---- the candidates

module _ (n : ℕ) (ks : List Rule) (r : ℕ) (w w' : List ℕ) (f : filled_in w w' ≡ true) where
  abbrev cs : List (List Bool)
  cs = candidates n ks r w

  abbrev cs' : List (List Bool)
  cs' = candidates n ks r w'

  pub among : Sublistᴰ cs' cs
  unfolding candidates
  among = sub-filter (agrees w') (agrees w) (agrees-before w w' f) (codewords n ks r)

  pub fewer : length cs' ≤ length cs
  fewer = sub-length among

  pub settled-kept : 0 < length cs' → (j : ℕ) → (settled_at cs j ≡ 2 → ⊥) → settled_at cs' j ≡ settled_at cs j
  settled-kept h = sub-settled cs' cs among h

  -- where all of them agree with w', all are left
  all-agree : ((x : List Bool) → Memᴰ x cs → agrees w' x ≡ true) → cs' ≡ cs
  all-agree h = candidates_unique n ks r w cs' (candidates_rise n ks r w') (λ x. (
    λ m. (candidate_iff n ks r w x).0 (sub_mem among m),
    λ (k, a). (candidate_iff n ks r w' x).1 (k, h x ((candidate_iff n ks r w x).1 (k, a))),
  ))

  module _ (l : length w ≡ 2 ^ n) where
    -- they are as long as the words
    long : (x : List Bool) → Memᴰ x cs → length x ≡ length w
    long x m = ((candidate_iff n ks r w x).0 m).0.0 ∙ sym l

    -- a codeword that agrees no more is contrary to what was read at a place, where one that still agrees is not
    pub fewer_by_fetching : 0 < length cs' → length cs' < length cs → (j : ℕ) × (j < 2 ^ n) × (get_or w j 0 ≡ 2) × (get_or w' j 0 < 2) × (settled_at cs j ≡ 2)
    fewer_by_fetching h k = go (all (agrees w') cs) refl
      where
        go : (b : Bool) → all (agrees w') cs ≡ b → (j : ℕ) × (j < 2 ^ n) × (get_or w j 0 ≡ 2) × (get_or w' j 0 < 2) × (settled_at cs j ≡ 2)
        go true e = absurd (omega (arith, ap length (all-agree (λ x m. all_mem (agrees w') m e))))
        go false e =
            let (x, mx, ax) = not-all (agrees w') cs e in
            let (z, mz) = head_in cs' h in
            let (j, lj, p, q, cx) = contrary w w' f x (long x mx) ((candidate_iff n ks r w x).0 mx).1 ax in
            let mz' : Memᴰ z cs = sub_mem among mz in
            let cz : fits (get_or w' j 0) (get_or z j false) ≡ true = agrees_at w' z ((candidate_iff n ks r w' z).0 mz).1 j (omega (arith, filled-long w w' f)) (omega (arith, long z mz')) in
            (j, omega arith, p, q, apart cs j (get_or w' j 0) q mx mz' cx cz)

    -- what was read at a settled place is its value, or none agrees
    pub as_settled : (j : ℕ) → j < 2 ^ n → (settled_at cs j ≡ 2 → ⊥) → get_or w' j 0 < 2 → 0 < length cs' → get_or w' j 0 ≡ settled_at cs j
    as_settled j k u h p =
        let (z, mz) = head_in cs' p in
        let mz' : Memᴰ z cs = sub_mem among mz in
        fitting cs j (get_or w' j 0) h u mz' (agrees_at w' z ((candidate_iff n ks r w' z).0 mz).1 j (omega (arith, filled-long w w' f)) (omega (arith, long z mz')))

    pub all_left : ((j : ℕ) → j < 2 ^ n → get_or w j 0 ≡ 2 → get_or w' j 0 < 2 → get_or w' j 0 ≡ settled_at cs j) → cs' ≡ cs
    all_left h = all-agree (λ x m. go x m (agrees w' x) refl)
      where
        go : (x : List Bool) → Memᴰ x cs → (b : Bool) → agrees w' x ≡ b → agrees w' x ≡ true
        go x m true e = e
        go x m false e =
            let (j, lj, p, q, cx) = contrary w w' f x (long x m) ((candidate_iff n ks r w x).0 m).1 e in
            absurd (true≢false (sym (settled_in_lem cs j m (get_or w' j 0) q (h j (omega arith) p q)) ∙ cx))

-- ---- the first and the last

in_order : (n : ℕ) (x y : List Bool) → (x ≡ y) ⊎ Earlier n x y → NotLater n (map bit x) (map bit y)
in_order n x y (inl e) = inl (ap (map bit) e)
in_order n x y (inr k) = inr (rw (ones_back x, ones_back y) k)

-- the first of a list that rises comes before any other member
first_of : (n : ℕ) (l : List (List Bool)) → Rises (Earlier n) l → {a : List Bool} → Memᴰ a l → NotLater n (first l) (map bit a)
first_of n [] r m = absurd (mathlib.Core.List.Memᴰ.not-nil m)
first_of n (x ∷ l) r {a} m = in_order n x a (⊎_elim (λ e. inl (sym e)) (λ k. inr (below_mem (Earlier n) x l r.0 a k)) (mathlib.Core.List.Memᴰ.cases_cons m))

-- the last is a member, and any other comes before it
last_of : (n : ℕ) (l : List (List Bool)) → 0 < length l → Rises (Earlier n) l
    → (z : List Bool) × Memᴰ z l × (last l ≡ map bit z) × ((a : List Bool) → Memᴰ a l → (a ≡ z) ⊎ Earlier n a z)
last_of n [] h r = absurd (omega arith)
last_of n (x ∷ []) h r = (x, mathlib.Core.List.Memᴰ.head refl, refl, λ a m. ⊎_elim (λ e. inl e) (λ k. absurd (mathlib.Core.List.Memᴰ.not-nil k)) (mathlib.Core.List.Memᴰ.cases_cons m))
last_of n (x ∷ y ∷ l) h r =
    let (z, k, e, f) = last_of n (y ∷ l) (omega arith) r.1 in
    (z, mathlib.Core.List.Memᴰ.tail k, e, λ a m. ⊎_elim (λ q. inr (rw q (below_mem (Earlier n) x (y ∷ l) r.0 z k))) (λ t. f a t) (mathlib.Core.List.Memᴰ.cases_cons m))

module _ (n : ℕ) (l m : List (List Bool)) (s : Sublistᴰ l m) (h : 0 < length l) (rl : Rises (Earlier n) l) (rm : Rises (Earlier n) m) where
  first-later : NotLater n (first m) (first l)
  first-later = go l s h
    where
      go : (t : List (List Bool)) → Sublistᴰ t m → 0 < length t → NotLater n (first m) (first t)
      go [] s h = absurd (omega arith)
      go (x ∷ t) s h = first_of n m rm (sub_mem s (mathlib.Core.List.Memᴰ.head refl))

  last_earlier : NotLater n (last l) (last m)
  last_earlier =
      let (z, k, e, f) = last_of n l h rl in
      let (z', k', e', f') = last_of n m (omega (arith, sub-length s)) rm in
      rw (e, e') (in_order n z z' (f' z (sub_mem s k)))

module _ (n : ℕ) (ks : List Rule) (r : ℕ) (w w' : List ℕ) (f : filled_in w w' ≡ true) where
  pub narrowed : 0 < length (candidates n ks r w')
      → NotLater n (first (candidates n ks r w)) (first (candidates n ks r w')) × NotLater n (last (candidates n ks r w')) (last (candidates n ks r w))
  narrowed h =
      let s = among n ks r w w' f in
      (first-later n _ _ s h (candidates_rise n ks r w') (candidates_rise n ks r w), last_earlier n _ _ s h (candidates_rise n ks r w') (candidates_rise n ks r w))
