-- Lists that rise strictly: one with given members is unique. All vectors of a length rise, are all of them, and what tests of them count.
--     rises_unique           two lists that rise and have the same members are equal
--     rises_bits, all-bits, length-bits     all vectors of a length rise, are all, are 2 ^ n
--     any-bits, bits-any     a test that some vector passes
--     count-shift            to add one vector to all only changes their order
use mathlib.Core.Path.{◌≡◌, refl, sym, ap, ap₂, ◌∙◌}
use mathlib.Core.Logic.{◌⊎◌, inl, inr, ⊎_elim}
use Prim.Native.Nat.{ℕ, zero, suc, ◌+◌, ◌^◌}
use native.Mathlib.Omega.{arith}
use native.Mathlib.Nat.{suc_inj, add_comm}
use mathlib.Core.Bool.{Bool, true, false, false≢true}
use mathlib.Core.List.Memᴰ
use mathlib.Core.List.{List, [], ◌∷◌, ◌++◌, map, Memᴰ}
use lib.ListN.{length, length-append, length-map}
use Rattle.bits.specs.Vectors.{◌⊞◌, all_bits, filter, keep, any, count, Before, Below, Rises}
use Rattle.bits.proofs.Tests.{any_mem, mem_any, count_append, count_ext, count_map}

module _ {A : Type 0} (lt : A → A → Type 0) where
  pub below_mem : (x : A) (l : List A) → Below lt x l → (a : A) → Memᴰ a l → lt x a
  below_mem x [] b a m = absurd (Memᴰ.not-nil m)
  below_mem x (y ∷ l) b a m = ⊎_elim (λ e. rw e b.0) (below_mem x l b.1 a) (Memᴰ.cases_cons m)

  pub below_append : (x : A) (l m : List A) → Below lt x l → Below lt x m → Below lt x (l ++ m)
  below_append x [] m p q = q
  below_append x (y ∷ l) m p q = (p.0, below_append x l m p.1 q)

  -- the members of l stand before those of m
  pub rises_append : (l m : List A) → Rises lt l → Rises lt m → ((a : A) → Memᴰ a l → Below lt a m) → Rises lt (l ++ m)
  rises_append [] m p q h = q
  rises_append (x ∷ l) m p q h =
      (below_append x l m p.0 (h x (Memᴰ.head refl)), rises_append l m p.1 q (λ a k. h a (Memᴰ.tail k)))

  below_filter : (p : A → Bool) (x : A) (l : List A) → Below lt x l → Below lt x (filter p l)
  below_filter p x [] b = tt
  below_filter p x (y ∷ l) b = go (p y) (below_filter p x l b.1)
    where
      go : (c : Bool) → Below lt x (filter p l) → Below lt x (keep c y (filter p l))
      go true q = (b.0, q)
      go false q = q

  pub rises_filter : (p : A → Bool) (l : List A) → Rises lt l → Rises lt (filter p l)
  rises_filter p [] r = tt
  rises_filter p (x ∷ l) r = go (p x) (rises_filter p l r.1)
    where
      go : (c : Bool) → Rises lt (filter p l) → Rises lt (keep c x (filter p l))
      go true q = (below_filter p x l r.0, q)
      go false q = q

  module _ (irr : (x : A) → lt x x → ⊥) (trans : (x y z : A) → lt x y → lt y z → lt x z) where
    -- two lists that rise and have the same members are equal
    pub rises_unique : (l m : List A) → Rises lt l → Rises lt m → ((a : A) → Memᴰ a l → Memᴰ a m) → ((a : A) → Memᴰ a m → Memᴰ a l) → l ≡ m
    rises_unique [] [] p q f g = refl
    rises_unique [] (y ∷ m) p q f g = absurd (Memᴰ.not-nil (g y (Memᴰ.head refl)))
    rises_unique (x ∷ l) [] p q f g = absurd (Memᴰ.not-nil (f x (Memᴰ.head refl)))
    rises_unique (x ∷ l) (y ∷ m) p q f g =
        let e : x ≡ y = heads (Memᴰ.cases_cons (f x (Memᴰ.head refl))) (Memᴰ.cases_cons (g y (Memᴰ.head refl))) in
        ap₂ {C = List A} ◌∷◌ e (rises_unique l m p.1 q.1
        (λ a k. ⊎_elim (λ s. absurd (irr x (below_mem x l p.0 x (Memᴰ.cast (e ∙ sym s) k)))) (λ t. t) (Memᴰ.cases_cons (f a (Memᴰ.tail k))))
        (λ a k. ⊎_elim (λ s. absurd (irr y (below_mem y m q.0 y (Memᴰ.cast (sym e ∙ sym s) k)))) (λ t. t) (Memᴰ.cases_cons (g a (Memᴰ.tail k)))))
      where
        heads : (x ≡ y) ⊎ Memᴰ x m → (y ≡ x) ⊎ Memᴰ y l → x ≡ y
        heads (inl e) k = e
        heads (inr h) (inl e) = sym e
        heads (inr h) (inr k) = absurd (irr x (trans x y x (below_mem x l p.0 y k) (below_mem y m q.0 x h)))

-- ---- all vectors of a length

pub before_irr : (v : List Bool) → Before v v → ⊥
before_irr [] h = false≢true h
before_irr (false ∷ v) h = before_irr v h
before_irr (true ∷ v) h = before_irr v h

pub before_trans : (u v w : List Bool) → Before u v → Before v w → Before u w
before_trans [] v w p q = p
before_trans (a ∷ u) [] w p q = absurd (false≢true p)
before_trans (a ∷ u) (b ∷ v) [] p q = absurd (false≢true q)
before_trans (false ∷ u) (false ∷ v) (false ∷ w) p q = before_trans u v w p q
before_trans (false ∷ u) (false ∷ v) (true ∷ w) p q = refl
before_trans (false ∷ u) (true ∷ v) (false ∷ w) p q = absurd (false≢true q)
before_trans (false ∷ u) (true ∷ v) (true ∷ w) p q = refl
before_trans (true ∷ u) (false ∷ v) (c ∷ w) p q = absurd (false≢true p)
before_trans (true ∷ u) (true ∷ v) (false ∷ w) p q = absurd (false≢true q)
before_trans (true ∷ u) (true ∷ v) (true ∷ w) p q = before_trans u v w p q

pub all-bits : (n : ℕ) (u : List Bool) → length u ≡ n → Memᴰ u (all_bits n)
unfolding all_bits
all-bits zero [] h = Memᴰ.head refl
all-bits zero (b ∷ u) h = absurd (omega arith)
all-bits (suc n) [] h = absurd (omega arith)
all-bits (suc n) (false ∷ u) h = Memᴰ.append_left (map (λ (v : List Bool). true ∷ v) (all_bits n)) (Memᴰ.map (λ (v : List Bool). false ∷ v) (all-bits n u (suc_inj h)))
all-bits (suc n) (true ∷ u) h = Memᴰ.append_right (map (λ (v : List Bool). false ∷ v) (all_bits n)) (Memᴰ.map (λ (v : List Bool). true ∷ v) (all-bits n u (suc_inj h)))

pub bits-length : (n : ℕ) (u : List Bool) → Memᴰ u (all_bits n) → length u ≡ n
unfolding all_bits
bits-length zero u m = ⊎_elim (λ e. rw e) (λ k. absurd (Memᴰ.not-nil k)) (Memᴰ.cases_cons m)
bits-length (suc n) u m = ⊎_elim (go (bits-length n) false) (go (bits-length n) true) (Memᴰ.append_cases (map (λ (v : List Bool). false ∷ v) (all_bits n)) m)
  where
    go : ((v : List Bool) → Memᴰ v (all_bits n) → length v ≡ n) → (b : Bool) → Memᴰ u (map (λ (v : List Bool). b ∷ v) (all_bits n)) → length u ≡ suc n
    go below b k = let t = Memᴰ.of_map (λ (v : List Bool). b ∷ v) (all_bits n) k in rw (← t.2) (ap suc (below t.0 t.1))

rises_cons : (b : Bool) (l : List (List Bool)) → Rises Before l → Rises Before (map (λ (v : List Bool). b ∷ v) l)
rises_cons b [] r = tt
rises_cons b (x ∷ l) r = (below b l r.0, rises_cons b l r.1)
  where
    below : (c : Bool) (m : List (List Bool)) → Below Before x m → Below Before (c ∷ x) (map (λ (v : List Bool). c ∷ v) m)
    below c [] q = tt
    below false (y ∷ m) q = (q.0, below false m q.1)
    below true (y ∷ m) q = (q.0, below true m q.1)

pub rises_bits : (n : ℕ) → Rises Before (all_bits n)
unfolding all_bits
rises_bits zero = (tt, tt)
rises_bits (suc n) = rises_append Before (map (λ (v : List Bool). false ∷ v) (all_bits n)) (map (λ (v : List Bool). true ∷ v) (all_bits n))
    (rises_cons false (all_bits n) (rises_bits n)) (rises_cons true (all_bits n) (rises_bits n)) across
  where
    falses : (w : List Bool) (l : List (List Bool)) → Below Before (false ∷ w) (map (λ (v : List Bool). true ∷ v) l)
    falses w [] = tt
    falses w (x ∷ l) = (refl, falses w l)

    across : (a : List Bool) → Memᴰ a (map (λ (v : List Bool). false ∷ v) (all_bits n)) → Below Before a (map (λ (v : List Bool). true ∷ v) (all_bits n))
    across a k = let t = Memᴰ.of_map (λ (v : List Bool). false ∷ v) (all_bits n) k in rw (← t.2) (falses t.0 (all_bits n))

pub length-bits : (n : ℕ) → length (all_bits n) ≡ 2 ^ n
unfolding all_bits
length-bits zero = refl
length-bits (suc n) = simp (length-append, length-map) (omega (arith, length-bits n))

-- ---- tests over all vectors of a length

pub any-bits : (p : List Bool → Bool) (n : ℕ) → any p (all_bits n) ≡ true → (u : List Bool) × (length u ≡ n) × (p u ≡ true)
any-bits p n h = let t = any_mem p (all_bits n) h in (t.0, bits-length n t.0 t.1, t.2)

pub bits-any : (p : List Bool → Bool) (n : ℕ) (u : List Bool) → length u ≡ n → p u ≡ true → any p (all_bits n) ≡ true
bits-any p n u l h = mem_any p (all-bits n u l) h

pub count_bits : (p q : List Bool → Bool) (n : ℕ) → ((u : List Bool) → length u ≡ n → p u ≡ q u) → count p (all_bits n) ≡ count q (all_bits n)
count_bits p q n h = count_ext p q (all_bits n) (λ u m. h u (bits-length n u m))

pub count-suc : (p : List Bool → Bool) (n : ℕ) → count p (all_bits (suc n)) ≡ count (λ (v : List Bool). p (false ∷ v)) (all_bits n) + count (λ (v : List Bool). p (true ∷ v)) (all_bits n)
unfolding all_bits
count-suc p n = simp (count_append, count_map)

-- to add one vector to all only changes their order
pub count-shift : (p : List Bool → Bool) (n : ℕ) (d : List Bool) → length d ≡ n → count (λ (u : List Bool). p (u ⊞ d)) (all_bits n) ≡ count p (all_bits n)
unfolding all_bits
count-shift p zero [] h = refl
count-shift p zero (b ∷ d) h = absurd (omega arith)
count-shift p (suc n) [] h = absurd (omega arith)
count-shift p (suc n) (false ∷ d) h =
    count-suc (λ (u : List Bool). p (u ⊞ (false ∷ d))) n ∙ ap₂ ◌+◌ (count-shift (λ (v : List Bool). p (false ∷ v)) n d (suc_inj h)) (count-shift (λ (v : List Bool). p (true ∷ v)) n d (suc_inj h)) ∙ sym (count-suc p n)
count-shift p (suc n) (true ∷ d) h =
    count-suc (λ (u : List Bool). p (u ⊞ (true ∷ d))) n ∙ ap₂ ◌+◌ (count-shift (λ (v : List Bool). p (true ∷ v)) n d (suc_inj h)) (count-shift (λ (v : List Bool). p (false ∷ v)) n d (suc_inj h))
    ∙ add_comm (count (λ (v : List Bool). p (true ∷ v)) (all_bits n)) (count (λ (v : List Bool). p (false ∷ v)) (all_bits n)) ∙ sym (count-suc p n)
