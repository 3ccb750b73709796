-- How many vectors pass an affine test: none or a power of two; and no more than 2 to the number of places where two of them part.
use mathlib.Core.Path.{◌≡◌, refl, sym, ap, ◌∙◌}
use mathlib.Core.Logic.{◌⊎◌, inl, inr}
use Prim.Native.Nat.{ℕ, zero, suc, ◌+◌, ◌^◌, ◌≤◌}
use native.Mathlib.Omega.{arith}
use native.Mathlib.Numerals.{one-add}
use native.Mathlib.Nat.{zero-add}
use mathlib.Core.Bool.{Bool, true, false, ◌||◌, false≢true, true≢false}
use mathlib.Core.List.{List, [], ◌∷◌, ◌++◌}
use lib.ListN.{length, get_or}
use Rattle.bits.specs.Vectors.{◌⊕◌, ◌⊞◌, all_bits, any, count, bit, ones}
use Rattle.bits.proofs.Rising.{any-bits, count_bits, count-suc, count-shift}
use Rattle.bits.proofs.Tests.{bool_ext}
use Rattle.bits.proofs.Xor.{⊞-comm, ⊞-cancel, length-⊞}

abbrev pub Affine : (List Bool → Bool) → ℕ → Type 0
Affine p m = (u v w : List Bool) → length u ≡ m → length v ≡ m → length w ≡ m → p u ≡ true → p v ≡ true → p w ≡ true → p (u ⊞ (v ⊞ w)) ≡ true

infixl 60 ◌▹◌
abbrev pub ◌▹◌ : (List Bool → Bool) → Bool → List Bool → Bool
p ▹ b = λ (v : List Bool). p (b ∷ v)

count_none : {A : Type 0} (p : A → Bool) (l : List A) → any p l ≡ false → count p l ≡ 0
count_none p [] h = refl
count_none p (x ∷ l) h = go (p x) (count_none p l) h
  where
    go : (b : Bool) → (any p l ≡ false → count p l ≡ 0) → b || any p l ≡ false → bit b + count p l ≡ 0
    go true f k = absurd (true≢false k)
    go false f k = omega (arith, f k)

-- a test that no vector passes, or one that passes
some_bits : (p : List Bool → Bool) (m : ℕ) → (count p (all_bits m) ≡ 0) ⊎ ((u : List Bool) × (length u ≡ m) × (p u ≡ true))
some_bits p m = go (any p (all_bits m)) refl
  where
    go : (b : Bool) → any p (all_bits m) ≡ b → (count p (all_bits m) ≡ 0) ⊎ ((u : List Bool) × (length u ≡ m) × (p u ≡ true))
    go true e = inr (any-bits p m e)
    go false e = inl (count_none p (all_bits m) e)

pub power : (m : ℕ) (p : List Bool → Bool) → Affine p m → (count p (all_bits m) ≡ 0) ⊎ ((k : ℕ) × (count p (all_bits m) ≡ 2 ^ k))
unfolding all_bits
power zero p f = go (p []) refl
  where
    go : (b : Bool) → p [] ≡ b → (bit (p []) + 0 ≡ 0) ⊎ ((k : ℕ) × (bit (p []) + 0 ≡ 2 ^ k))
    go true e = inr (0, rw e)
    go false e = inl (rw e)
power (suc m) p f =
    let f₀ : Affine (p ▹ false) m = λ u v w a b c. f (false ∷ u) (false ∷ v) (false ∷ w) (ap suc a) (ap suc b) (ap suc c) in
    let f₁ : Affine (p ▹ true) m = λ u v w a b c. f (true ∷ u) (true ∷ v) (true ∷ w) (ap suc a) (ap suc b) (ap suc c) in
    rw (count-suc p m) (go (power m (p ▹ false) f₀) (power m (p ▹ true) f₁) (some_bits (p ▹ false) m) (some_bits (p ▹ true) m))
  where
    n₀ : ℕ
    n₀ = count (p ▹ false) (all_bits m)

    n₁ : ℕ
    n₁ = count (p ▹ true) (all_bits m)

    same : (a b : List Bool) → length a ≡ m → length b ≡ m → p (false ∷ a) ≡ true → p (true ∷ b) ≡ true → n₁ ≡ n₀
    same a b la lb pa pb =
        let ld = length-⊞ b a (lb ∙ sym la) ∙ lb in
        count_bits (p ▹ true) (λ (u : List Bool). p (false ∷ (u ⊞ (b ⊞ a)))) m
        (λ u lu. bool_ext _ _ (λ h. f (true ∷ u) (true ∷ b) (false ∷ a) (ap suc lu) (ap suc lb) (ap suc la) h pb pa)
        (λ h. ap p (ap {B = List Bool} (λ t. true ∷ t) (sym (ap (λ (t : List Bool). u ⊞ (b ⊞ a) ⊞ t) (⊞-comm a b) ∙ ⊞-cancel u (b ⊞ a) (lu ∙ sym ld))))
        ∙ f (false ∷ (u ⊞ (b ⊞ a))) (false ∷ a) (true ∷ b) (ap suc (length-⊞ u (b ⊞ a) (lu ∙ sym ld) ∙ lu)) (ap suc la) (ap suc lb) h pa pb))
        ∙ count-shift (p ▹ false) m (b ⊞ a) ld

    go : (n₀ ≡ 0) ⊎ ((k : ℕ) × (n₀ ≡ 2 ^ k)) → (n₁ ≡ 0) ⊎ ((k : ℕ) × (n₁ ≡ 2 ^ k)) → (n₀ ≡ 0) ⊎ ((u : List Bool) × (length u ≡ m) × (p (false ∷ u) ≡ true))
        → (n₁ ≡ 0) ⊎ ((u : List Bool) × (length u ≡ m) × (p (true ∷ u) ≡ true)) → (n₀ + n₁ ≡ 0) ⊎ ((k : ℕ) × (n₀ + n₁ ≡ 2 ^ k))
    go (inl a) (inl b) s t = inl (omega arith)
    go (inl a) (inr (k, b)) s t = inr (k, omega arith)
    go (inr (k, a)) (inl b) s t = inr (k, omega arith)
    go (inr (k, a)) (inr (j, b)) (inl s) t = inr (j, omega arith)
    go (inr (k, a)) (inr (j, b)) (inr s) (inl t) = inr (k, omega arith)
    go (inr (k, a)) (inr (j, b)) (inr (u, lu, pu)) (inr (v, lv, pv)) = inr (suc k, omega (arith, same u v lu lv pu pv))

-- ---- where two that pass part, fs holds 1

abbrev pub Parts : (List Bool → Bool) → List Bool → Type 0
Parts p fs = (c u v : List Bool) (a b : Bool) → length (c ++ a ∷ u) ≡ length fs → length u ≡ length v → p (c ++ a ∷ u) ≡ true → p (c ++ b ∷ v) ≡ true → a ⊕ b ≡ true → get_or fs (length c) false ≡ true

pub bound : (fs : List Bool) (p : List Bool → Bool) → Parts p fs → count p (all_bits (length fs)) ≤ 2 ^ ones fs
unfolding all_bits
bound [] p h = one (p [])
  where
    one : (b : Bool) → bit b + 0 ≤ 1
    one true = omega arith
    one false = omega arith
bound (f ∷ fs) p h =
    let sub : (x : Bool) → Parts (p ▹ x) fs = λ x c u v a b l k q r s. h (x ∷ c) u v a b (ap suc l) k q r s in
    rw (count-suc p (length fs)) (go f refl (bound fs (p ▹ false) (sub false)) (bound fs (p ▹ true) (sub true)) (some_bits (p ▹ false) (length fs)) (some_bits (p ▹ true) (length fs)))
  where
    n₀ : ℕ
    n₀ = count (p ▹ false) (all_bits (length fs))

    n₁ : ℕ
    n₁ = count (p ▹ true) (all_bits (length fs))

    go : (b : Bool) → f ≡ b → n₀ ≤ 2 ^ ones fs → n₁ ≤ 2 ^ ones fs → (n₀ ≡ 0) ⊎ ((u : List Bool) × (length u ≡ length fs) × (p (false ∷ u) ≡ true))
        → (n₁ ≡ 0) ⊎ ((u : List Bool) × (length u ≡ length fs) × (p (true ∷ u) ≡ true)) → n₀ + n₁ ≤ 2 ^ (bit b + ones fs)
    go true e i j s t = rw (one-add (ones fs)) (omega arith)
    go false e i j (inl s) t = rw (zero-add (ones fs)) (omega arith)
    go false e i j (inr s) (inl t) = rw (zero-add (ones fs)) (omega arith)
    go false e i j (inr (u, lu, pu)) (inr (v, lv, pv)) = absurd (false≢true (sym e ∙ h [] u v false true (ap suc lu) (lu ∙ sym lv) pu pv refl))
