-- Tests over lists: `filter`, `any`, `all`, `count`, `tab`.
--     all-at, at_all, get_or_map     all of a list, and a list of values, by index
--     not-both, eq_or_ne, le_or_lt, lt_or_gt     one or the other: two tests, two numbers
use mathlib.Core.Path.{◌≡◌, refl, sym, ap, ap₂, ◌∙◌}
use mathlib.Core.Logic.{◌⊎◌, inl, inr, ⊎_elim}
use Prim.Native.Nat.{ℕ, zero, suc, ◌+◌, ◌≤◌, ◌<◌}
use native.Mathlib.Omega.{arith}
use native.Mathlib.Nat.{zero-add, suc-add}
use mathlib.Core.Bool.{Bool, true, false, ◌&&◌, ◌||◌, false≢true, true≢false}
use mathlib.Core.List.Memᴰ
use mathlib.Core.List.{List, [], ◌∷◌, ◌++◌, map, Sublistᴰ, Memᴰ}
use lib.ListN.{length, drop, get_or, replicate, drop_of_length-le}
use lib.Seq.{drop-cons}
use Rattle.bits.specs.Vectors.{filter, keep, any, all, count, bit, pick, first_place, tab}

-- ---- tests

pub and_l : (a b : Bool) → a && b ≡ true → a ≡ true
and_l true b h = refl
and_l false b h = h

pub and_r : (a b : Bool) → a && b ≡ true → b ≡ true
and_r true b h = h
and_r false b h = absurd (false≢true h)

pub and_i : (a b : Bool) → a ≡ true → b ≡ true → a && b ≡ true
and_i a b p q = rw p q

pub and-false : (a b : Bool) → b ≡ false → a && b ≡ false
and-false true b h = h
and-false false b h = refl

pub and-true : (a : Bool) → a && true ≡ a
and-true true = refl
and-true false = refl

pub or_true : (a : Bool) → a || true ≡ true
or_true true = refl
or_true false = refl

pub or_false_l : (a b : Bool) → a || b ≡ false → a ≡ false
or_false_l true b h = absurd (true≢false h)
or_false_l false b h = refl

pub or_false_r : (a b : Bool) → a || b ≡ false → b ≡ false
or_false_r true b h = absurd (true≢false h)
or_false_r false b h = h

pub bool_ext : (a b : Bool) → (a ≡ true → b ≡ true) → (b ≡ true → a ≡ true) → a ≡ b
bool_ext true b f g = sym (f refl)
bool_ext false true f g = g refl
bool_ext false false f g = refl

-- ---- lists

module _ {A : Type 0} where
  pub any_mem : (p : A → Bool) (l : List A) → any p l ≡ true → (a : A) × Memᴰ a l × (p a ≡ true)
  any_mem p [] h = absurd (false≢true h)
  any_mem p (x ∷ l) h = go (p x) refl (any_mem p l) h
    where
      go : (b : Bool) → p x ≡ b → (any p l ≡ true → (a : A) × Memᴰ a l × (p a ≡ true)) → b || any p l ≡ true → (a : A) × Memᴰ a (x ∷ l) × (p a ≡ true)
      go true e f k = (x, Memᴰ.head refl, e)
      go false e f k = let t = f k in (t.0, Memᴰ.tail t.1, t.2)

  pub mem_any : (p : A → Bool) {a : A} {l : List A} → Memᴰ a l → p a ≡ true → any p l ≡ true
  mem_any p (Memᴰ.head e) h = rw (← e, h)
  mem_any p (Memᴰ.tail {x = x} {xs = l} m) h = or_r (p x) (any p l) (mem_any p m h)
    where
      or_r : (a b : Bool) → b ≡ true → a || b ≡ true
      or_r true b q = refl
      or_r false b q = q

  pub all_mem : (p : A → Bool) {a : A} {l : List A} → Memᴰ a l → all p l ≡ true → p a ≡ true
  all_mem p (Memᴰ.head {x = x} {xs = l} e) h = rw e (and_l (p x) (all p l) h)
  all_mem p (Memᴰ.tail {x = x} {xs = l} m) h = all_mem p m (and_r (p x) (all p l) h)

  pub not-all : (p : A → Bool) (l : List A) → all p l ≡ false → (a : A) × Memᴰ a l × (p a ≡ false)
  not-all p [] h = absurd (true≢false h)
  not-all p (x ∷ l) h = go (p x) refl (not-all p l) h
    where
      go : (b : Bool) → p x ≡ b → (all p l ≡ false → (a : A) × Memᴰ a l × (p a ≡ false)) → b && all p l ≡ false → (a : A) × Memᴰ a (x ∷ l) × (p a ≡ false)
      go false e f k = (x, Memᴰ.head refl, e)
      go true e f k = let t = f k in (t.0, Memᴰ.tail t.1, t.2)

  pub filter_mem : (p : A → Bool) (l : List A) {a : A} → Memᴰ a (filter p l) → Memᴰ a l × (p a ≡ true)
  filter_mem p [] m = absurd (Memᴰ.not-nil m)
  filter_mem p (x ∷ l) {a} m = go (p x) refl (filter_mem p l) m
    where
      go : (b : Bool) → p x ≡ b → (Memᴰ a (filter p l) → Memᴰ a l × (p a ≡ true)) → Memᴰ a (keep b x (filter p l)) → Memᴰ a (x ∷ l) × (p a ≡ true)
      go true e f k = ⊎_elim (λ q. (Memᴰ.head q, rw q e)) (λ t. (Memᴰ.tail (f t).0, (f t).1)) (Memᴰ.cases_cons k)
      go false e f k = (Memᴰ.tail (f k).0, (f k).1)

  pub mem_filter : (p : A → Bool) {a : A} {l : List A} → Memᴰ a l → p a ≡ true → Memᴰ a (filter p l)
  mem_filter p {a = a} (Memᴰ.head {x = x} {xs = l} e) h = rw (ap p (sym e) ∙ h) (Memᴰ.head e)
  mem_filter p {a = a} (Memᴰ.tail {x = x} {xs = l} m) h = go (p x) (mem_filter p m h)
    where
      go : (b : Bool) → Memᴰ a (filter p l) → Memᴰ a (keep b x (filter p l))
      go true k = Memᴰ.tail k
      go false k = k

  pub length-filter : (p : A → Bool) (l : List A) → length (filter p l) ≡ count p l
  length-filter p [] = refl
  length-filter p (x ∷ l) = go (p x) (length-filter p l)
    where
      go : (b : Bool) → length (filter p l) ≡ count p l → length (keep b x (filter p l)) ≡ bit b + count p l
      go true e = omega arith
      go false e = omega arith

  pub count_append : (p : A → Bool) (l m : List A) → count p (l ++ m) ≡ count p l + count p m
  count_append p [] m = sym (zero-add (count p m))
  count_append p (x ∷ l) m = omega (arith, count_append p l m)

  pub count_ext : (p q : A → Bool) (l : List A) → ((a : A) → Memᴰ a l → p a ≡ q a) → count p l ≡ count q l
  count_ext p q [] h = refl
  count_ext p q (x ∷ l) h = ap₂ (λ (b : Bool) (n : ℕ). bit b + n) (h x (Memᴰ.head refl)) (count_ext p q l (λ a m. h a (Memᴰ.tail m)))

  pub filter-filter : (p q : A → Bool) (l : List A) → filter p (filter q l) ≡ filter (λ (a : A). q a && p a) l
  filter-filter p q [] = refl
  filter-filter p q (x ∷ l) = go (q x) (filter-filter p q l)
    where
      go : (b : Bool) → filter p (filter q l) ≡ filter (λ (a : A). q a && p a) l → filter p (keep b x (filter q l)) ≡ keep (b && p x) x (filter (λ (a : A). q a && p a) l)
      go true e = rw e
      go false e = e

module _ {A B : Type 0} (f : A → B) (p : B → Bool) where
  pub count_map : (l : List A) → count p (map f l) ≡ count (λ (a : A). p (f a)) l
  count_map [] = refl
  count_map (x ∷ l) = rw (count_map l)

  pub filter_map : (l : List A) → filter p (map f l) ≡ map f (filter (λ (a : A). p (f a)) l)
  filter_map [] = refl
  filter_map (x ∷ l) = go (p (f x)) (filter_map l)
    where
      go : (b : Bool) → filter p (map f l) ≡ map f (filter (λ (a : A). p (f a)) l) → keep b (f x) (filter p (map f l)) ≡ map f (keep b x (filter (λ (a : A). p (f a)) l))
      go true e = ap {B = List B} (λ r. f x ∷ r) e
      go false e = e

module _ {A : Type 0} where
  pub count_le : (p : A → Bool) (l : List A) → count p l ≤ length l
  count_le p [] = omega arith
  count_le p (a ∷ l) = go (p a) (count_le p l)
    where
      go : (b : Bool) → count p l ≤ length l → bit b + count p l ≤ suc (length l)
      go true h = omega arith
      go false h = omega arith

  -- a stricter test passes fewer, in the same order
  pub sub-filter : (p q : A → Bool) → ((a : A) → p a ≡ true → q a ≡ true) → (l : List A) → Sublistᴰ (filter p l) (filter q l)
  sub-filter p q h [] = Sublistᴰ.slnil
  sub-filter p q h (x ∷ l) = go (p x) (q x) (h x) (sub-filter p q h l)
    where
      go : (b c : Bool) → (b ≡ true → c ≡ true) → Sublistᴰ (filter p l) (filter q l) → Sublistᴰ (keep b x (filter p l)) (keep c x (filter q l))
      go true true f s = Sublistᴰ.cons-cons refl s
      go true false f s = absurd (false≢true (f refl))
      go false true f s = Sublistᴰ.cons s
      go false false f s = s

-- ---- tables

module _ {A : Type 0} where
  pub length-tab : (n : ℕ) (f : ℕ → A) → length (tab n f) ≡ n
  length-tab zero f = refl
  length-tab (suc n) f = ap suc (length-tab n (λ (i : ℕ). f (suc i)))

  pub tab-at : (n : ℕ) (f : ℕ → A) (i : ℕ) (d : A) → i < n → get_or (tab n f) i d ≡ f i
  tab-at zero f i d h = absurd (omega arith)
  tab-at (suc n) f zero d h = refl
  tab-at (suc n) f (suc i) d h = tab-at n (λ (k : ℕ). f (suc k)) i d (omega arith)

  pub tab-get_or : (l : List A) (d : A) (f : ℕ → A) → ((i : ℕ) → i < length l → f i ≡ get_or l i d) → tab (length l) f ≡ l
  tab-get_or [] d f h = refl
  tab-get_or (b ∷ l) d f h = ap₂ {C = List A} ◌∷◌ (h zero (omega arith)) (tab-get_or l d (λ (i : ℕ). f (suc i)) (λ i q. h (suc i) (omega arith)))

pub tab_below : {A : Type 0} (n : ℕ) (f g : ℕ → A) → ((i : ℕ) → i < n → f i ≡ g i) → tab n f ≡ tab n g
tab_below zero f g h = refl
tab_below {A} (suc n) f g h = ap₂ {C = List A} ◌∷◌ (h zero (omega arith)) (tab_below n (λ (i : ℕ). f (suc i)) (λ (i : ℕ). g (suc i)) (λ i l. h (suc i) (omega arith)))

pub tab_ext : {A : Type 0} (n : ℕ) (f g : ℕ → A) → ((i : ℕ) → f i ≡ g i) → tab n f ≡ tab n g
tab_ext n f g h = tab_below n f g (λ i l. h i)

pub tab_append : {A : Type 0} (m n : ℕ) (f : ℕ → A) → tab (m + n) f ≡ tab m f ++ tab n (λ (i : ℕ). f (m + i))
tab_append zero n f = rw (zero-add n) (tab_ext n f (λ (i : ℕ). f (zero + i)) (λ i. ap f (sym (zero-add i))))
tab_append {A} (suc m) n f = rw (suc-add m n) (ap {B = List A} (λ t. f zero ∷ t) (tab_append m n (λ (i : ℕ). f (suc i)) ∙ ap (λ (t : List A). tab m (λ (i : ℕ). f (suc i)) ++ t) (tab_ext n _ _ (λ i. ap f (sym (suc-add m i))))))

pub tab_snoc : {A : Type 0} (n : ℕ) (f : ℕ → A) → tab (n + 1) f ≡ tab n f ++ (f n ∷ [])
tab_snoc zero f = refl
tab_snoc {A} (suc n) f = rw (suc-add n 1) (ap {B = List A} (λ r. f zero ∷ r) (tab_snoc n (λ (i : ℕ). f (suc i))))

pub tab-same : {A : Type 0} (n : ℕ) (x : A) → tab n (λ (i : ℕ). x) ≡ replicate n x
tab-same zero x = refl
tab-same {A} (suc n) x = ap {B = List A} (λ r. x ∷ r) (tab-same n x)

-- ---- a search from the front: what is left to do at place i

module _ {A : Type 0} (p : A → Bool) (l : List A) (i : ℕ) (d : A) (h : i < length l) where
  -- the place of the first that passes: i passes, or i is passed over
  pub place_found : p (get_or l i d) ≡ true → i + first_place p (drop i l) ≡ i
  place_found e = rw (drop-cons l i d h, e) (omega arith)

  pub place-next : p (get_or l i d) ≡ false → i + first_place p (drop i l) ≡ suc i + first_place p (drop (suc i) l)
  place-next e = rw (drop-cons l i d h, e) (omega arith)

  -- whether all pass: i fails, or i passes
  pub all_fails : p (get_or l i d) ≡ false → all p (drop i l) ≡ false
  all_fails e = rw (drop-cons l i d h, e)

  pub all-next : p (get_or l i d) ≡ true → all p (drop i l) ≡ all p (drop (suc i) l)
  all-next e = rw (drop-cons l i d h, e)

module _ {A : Type 0} (p : A → Bool) where
  pub place_end : (l : List A) (i : ℕ) → length l ≤ i → i + first_place p (drop i l) ≡ i
  place_end l i h = rw (drop_of_length-le l h) (omega arith)

  pub all_end : (l : List A) (i : ℕ) → length l ≤ i → all p (drop i l) ≡ true
  all_end l i h = rw (drop_of_length-le l h)

  pub place_le : (l : List A) → first_place p l ≤ length l
  place_le [] = omega arith
  place_le (a ∷ l) = go (p a) (place_le l)
    where
      go : (b : Bool) → first_place p l ≤ length l → pick b 0 (suc (first_place p l)) ≤ suc (length l)
      go true q = omega arith
      go false q = omega arith

  -- at its place the test holds, and at none before
  pub place_passes : (l : List A) (d : A) → first_place p l < length l → p (get_or l (first_place p l) d) ≡ true
  place_passes [] d h = absurd (omega arith)
  place_passes (a ∷ l) d h = go (p a) refl (place_passes l d) h
    where
      go : (b : Bool) → p a ≡ b → (first_place p l < length l → p (get_or l (first_place p l) d) ≡ true) → pick b 0 (suc (first_place p l)) < suc (length l)
          → p (get_or (a ∷ l) (pick b 0 (suc (first_place p l))) d) ≡ true
      go true e f q = e
      go false e f q = f (omega arith)

  pub place-first : (l : List A) (d : A) (i : ℕ) → i < first_place p l → p (get_or l i d) ≡ false
  place-first [] d i h = absurd (omega arith)
  place-first (a ∷ l) d i h = go (p a) refl i (λ j q. place-first l d j q) h
    where
      go : (b : Bool) → p a ≡ b → (i : ℕ) → ((j : ℕ) → j < first_place p l → p (get_or l j d) ≡ false) → i < pick b 0 (suc (first_place p l)) → p (get_or (a ∷ l) i d) ≡ false
      go true e i f q = absurd (omega arith)
      go false e zero f q = e
      go false e (suc i) f q = f i (omega arith)

-- ---- by index

module _ {A : Type 0} (p : A → Bool) (d : A) where
  pub all-at : (l : List A) → all p l ≡ true → (i : ℕ) → i < length l → p (get_or l i d) ≡ true
  all-at [] h i k = absurd (omega arith)
  all-at (a ∷ l) h zero k = and_l (p a) (all p l) h
  all-at (a ∷ l) h (suc i) k = all-at l (and_r (p a) (all p l) h) i (omega arith)

  pub at_all : (l : List A) → ((i : ℕ) → i < length l → p (get_or l i d) ≡ true) → all p l ≡ true
  at_all [] h = refl
  at_all (a ∷ l) h = and_i (p a) (all p l) (h zero (omega arith)) (at_all l (λ i k. h (suc i) (omega arith)))

pub get_or_map : {A B : Type 0} (f : A → B) (l : List A) (i : ℕ) (d : A) (c : B) → i < length l → get_or (map f l) i c ≡ f (get_or l i d)
get_or_map f [] i d c h = absurd (omega arith)
get_or_map f (a ∷ l) zero d c h = refl
get_or_map f (a ∷ l) (suc i) d c h = get_or_map f l i d c (omega arith)

pub count_none : {A : Type 0} (l : List A) → count (λ (a : A). false) l ≡ 0
count_none [] = refl
count_none (x ∷ l) = omega (arith, count_none l)

-- ---- one or the other

pub not-both : {a : Bool} → a ≡ true → a ≡ false → ⊥
not-both p q = true≢false (sym p ∙ q)

pub eq_or_ne : (a b : ℕ) → (a ≡ b) ⊎ (a ≡ b → ⊥)
eq_or_ne zero zero = inl refl
eq_or_ne zero (suc b) = inr (λ h. omega arith)
eq_or_ne (suc a) zero = inr (λ h. omega arith)
eq_or_ne (suc a) (suc b) = ⊎_elim (λ q. inl (ap suc q)) (λ n. inr (λ h. n (omega arith))) (eq_or_ne a b)

pub le_or_lt : (a b : ℕ) → (a ≤ b) ⊎ (b < a)
le_or_lt zero b = inl (omega arith)
le_or_lt (suc a) zero = inr (omega arith)
le_or_lt (suc a) (suc b) = ⊎_elim (λ q. inl (omega arith)) (λ q. inr (omega arith)) (le_or_lt a b)

pub lt_or_gt : (a b : ℕ) → (a ≡ b → ⊥) → (a < b) ⊎ (b < a)
lt_or_gt a b n = ⊎_elim (λ (q : a ≤ b). inl (omega arith)) inr (le_or_lt a b)
