-- How many of the places 0, 1, .. below n pass a test.
--     tally f n                 how many do
--     tally_ext, tally_first    by each place; the first place apart
--     tally_not, tally_or, tally_at     of the opposite; of two tests that never both hold; of one place
--     count_tally               how many of a list pass, by places
use mathlib.Core.Path.{◌≡◌, refl, sym, ap, ap₂, ◌∙◌}
use mathlib.Core.Logic.{⊎_elim}
use Prim.Native.Nat.{ℕ, zero, suc, ◌+◌, ◌≤◌, ◌<◌}
use native.Mathlib.Omega.{arith}
use native.Mathlib.Nat.{eq-or-lt_of_le}
use mathlib.Core.Bool.{Bool, true, false, ◌||◌, not}
use mathlib.Core.List.{List, [], ◌∷◌}
use lib.ListN.{length, get_or}
use lib.Dec.{eqb}
use borrow.Author.Tests.{eq-eqb, ne_eqb}
use Rattle.bits.specs.Vectors.{bit, count}

unfoldable pub tally : (ℕ → Bool) → ℕ → ℕ
tally f zero = zero
tally f (suc n) = bit (f n) + tally f n

pub tally_ext : (f g : ℕ → Bool) (n : ℕ) → ((k : ℕ) → k < n → f k ≡ g k) → tally f n ≡ tally g n
unfolding tally
tally_ext f g zero h = refl
tally_ext f g (suc n) h = ap₂ (λ (b : Bool) (m : ℕ). bit b + m) (h n (omega arith)) (tally_ext f g n (λ k l. h k (omega arith)))

-- the first place apart
pub tally_first : (f : ℕ → Bool) (n : ℕ) → tally f (suc n) ≡ bit (f 0) + tally (λ (k : ℕ). f (suc k)) n
unfolding tally
tally_first f zero = refl
tally_first f (suc n) = omega (arith, tally_first f n)

pub count_tally : {A : Type 0} (p : A → Bool) (d : A) (l : List A) → count p l ≡ tally (λ (k : ℕ). p (get_or l k d)) (length l)
unfolding tally
count_tally p d [] = refl
count_tally p d (a ∷ l) = ap (λ (n : ℕ). bit (p a) + n) (count_tally p d l) ∙ sym (tally_first (λ (k : ℕ). p (get_or (a ∷ l) k d)) (length l))

pub tally_false : (n : ℕ) → tally (λ (k : ℕ). false) n ≡ 0
unfolding tally
tally_false zero = refl
tally_false (suc n) = omega (arith, tally_false n)

pub tally_not : (f : ℕ → Bool) (n : ℕ) → tally f n + tally (λ (k : ℕ). not (f k)) n ≡ n
unfolding tally
tally_not f zero = refl
tally_not f (suc n) = go (f n) (tally_not f n)
  where
    go : (b : Bool) → tally f n + tally (λ (k : ℕ). not (f k)) n ≡ n → bit b + tally f n + (bit (not b) + tally (λ (k : ℕ). not (f k)) n) ≡ suc n
    go true h = omega arith
    go false h = omega arith

-- of two tests that never both hold
pub tally_or : (f g : ℕ → Bool) (n : ℕ) → ((k : ℕ) → k < n → f k ≡ true → g k ≡ false) → tally (λ (k : ℕ). f k || g k) n ≡ tally f n + tally g n
unfolding tally
tally_or f g zero h = refl
tally_or f g (suc n) h = go (f n) (g n) (h n (omega arith)) (tally_or f g n (λ k l. h k (omega arith)))
  where
    go : (a b : Bool) → (a ≡ true → b ≡ false) → tally (λ (k : ℕ). f k || g k) n ≡ tally f n + tally g n → bit (a || b) + tally (λ (k : ℕ). f k || g k) n ≡ bit a + tally f n + (bit b + tally g n)
    go true b i e = let q : bit b ≡ 0 = ap bit (i refl) in omega arith
    go false b i e = omega arith

tally_far : (a g : ℕ) → g < a → tally (λ (b : ℕ). eqb a (suc b)) g ≡ 0
unfolding tally
tally_far a zero h = refl
tally_far a (suc g) h = let q : bit (eqb a (suc g)) ≡ 0 = ap bit (ne_eqb a (suc g) (λ (w : a ≡ suc g). omega arith)) in omega (arith, tally_far a g (omega arith))

-- one more than some b below g, or 0
pub tally_at : (a g : ℕ) → a ≤ g → tally (λ (b : ℕ). eqb a (suc b)) g ≡ bit (not (eqb a 0))
unfolding tally
tally_at a zero h = let q : bit (not (eqb a 0)) ≡ 0 = ap (λ (t : Bool). bit (not t)) (eq-eqb a 0 (omega arith)) in omega arith
tally_at a (suc g) h = ⊎_elim
    (λ (w : a ≡ suc g). let p : bit (eqb a (suc g)) ≡ 1 = ap bit (eq-eqb a (suc g) w) in let q : bit (not (eqb a 0)) ≡ 1 = ap (λ (t : Bool). bit (not t)) (ne_eqb a 0 (λ (v : a ≡ 0). omega arith)) in omega (arith, tally_far a g (omega arith)))
    (λ (w : a < suc g). let p : bit (eqb a (suc g)) ≡ 0 = ap bit (ne_eqb a (suc g) (λ (v : a ≡ suc g). omega arith)) in omega (arith, tally_at a g (omega arith)))
    (eq-or-lt_of_le h)
