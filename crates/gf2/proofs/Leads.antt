-- The highest coefficient of a row: `lead`, by way of `top`.
--     top-..                          what `top f n` says of f below n, and what settles it
--     lead-holds, lead_above, lead_le   a row has its lead, and no coefficient above it
--     lead-⊻_le, lead_add             the lead of a sum
use mathlib.Core.Path.{◌≡◌, refl, ap₂, ◌∙◌}
use mathlib.Core.Logic.{◌⊎◌, inl, inr, ⊎_elim}
use Prim.Native.Nat.{ℕ, zero, suc, ◌*◌, ◌≤◌, ◌<◌}
use native.Mathlib.Omega.{arith}
use native.Mathlib.Nat.{eq-or-lt_of_le}
use mathlib.Core.Bool.{Bool, true, false}
use Rattle.bits.specs.Vectors.{◌⊕◌, pick}
use Rattle.bits.proofs.Tests.{not-both, le_or_lt}
use Rattle.bits.specs.Rows.{Row, ◌⊻◌, has}
use Rattle.gf2.specs.Solve.{top, lead}
use Rattle.bits.proofs.RowXor.{has-⊻}

-- ---- the highest place at which a test holds

pub top_le : (f : ℕ → Bool) (n : ℕ) → top f n ≤ n
unfolding top
top_le f zero = omega arith
top_le f (suc n) = go (f n) (top_le f n)
  where
    go : (b : Bool) → top f n ≤ n → pick b (suc n) (top f n) ≤ suc n
    go true h = omega arith
    go false h = omega arith

-- it holds at the top
pub top-holds : (f : ℕ → Bool) (n b : ℕ) → top f n ≡ suc b → f b ≡ true
unfolding top
top-holds f zero b h = absurd (omega arith)
top-holds f (suc n) b h = go (f n) refl (top-holds f n b) h
  where
    go : (t : Bool) → f n ≡ t → (top f n ≡ suc b → f b ≡ true) → pick t (suc n) (top f n) ≡ suc b → f b ≡ true
    go true e ih k = let q : b ≡ n = omega arith in rw q e
    go false e ih k = ih k

-- and nowhere from there on
pub top_above : (f : ℕ → Bool) (n t : ℕ) → top f n ≤ t → t < n → f t ≡ false
unfolding top
top_above f zero t h l = absurd (omega arith)
top_above f (suc n) t h l = go (f n) refl (top_above f n t) h (eq-or-lt_of_le (omega arith))
  where
    go : (s : Bool) → f n ≡ s → (top f n ≤ t → t < n → f t ≡ false) → pick s (suc n) (top f n) ≤ t → (t ≡ n) ⊎ (t < n) → f t ≡ false
    go true e ih k d = absurd (omega arith)
    go false e ih k (inl q) = rw q e
    go false e ih k (inr q) = ih k q

pub top-none : (f : ℕ → Bool) (n : ℕ) → ((t : ℕ) → t < n → f t ≡ false) → top f n ≡ 0
unfolding top
top-none f zero h = refl
top-none f (suc n) h = rw (h n (omega arith)) (top-none f n (λ t l. h t (omega arith)))

pub top-is : (f : ℕ → Bool) (n b : ℕ) → b < n → f b ≡ true → ((t : ℕ) → b < t → t < n → f t ≡ false) → top f n ≡ suc b
unfolding top
top-is f zero b l e h = absurd (omega arith)
top-is f (suc n) b l e h = go (eq-or-lt_of_le (omega arith)) (λ q. top-is f n b q e (λ t m k. h t m (omega arith)))
  where
    go : (b ≡ n) ⊎ (b < n) → (b < n → top f n ≡ suc b) → pick (f n) (suc n) (top f n) ≡ suc b
    go (inl q) ih = rw (← q, e) refl
    go (inr q) ih = rw (h n q (omega arith)) (ih q)

-- ---- the highest coefficient

pub lead-holds : (c : ℕ) (x : Row) (b : ℕ) → lead c x ≡ suc b → has b x ≡ true
lead-holds c x b h = top-holds (λ (t : ℕ). has t x) (64 * c) b h

pub lead_above : (c : ℕ) (x : Row) (t : ℕ) → lead c x ≤ t → t < 64 * c → has t x ≡ false
lead_above c x t h l = top_above (λ (u : ℕ). has u x) (64 * c) t h l

pub lead_le : (c : ℕ) (x : Row) → lead c x ≤ 64 * c
lead_le c x = top_le (λ (t : ℕ). has t x) (64 * c)

-- a bit that a row has is below its lead
pub below_lead : (c : ℕ) (x : Row) (t : ℕ) → t < 64 * c → has t x ≡ true → t < lead c x
below_lead c x t l h = ⊎_elim (λ (q : lead c x ≤ t). absurd (not-both h (lead_above c x t q l))) (λ (q : t < lead c x). q) (le_or_lt (lead c x) t)

-- to add a row with a lower lead changes no lead
pub lead_add : (c : ℕ) (x e : Row) (p b : ℕ) → lead c x ≡ suc p → lead c e ≡ suc b → b < p → lead c (x ⊻ e) ≡ suc p
lead_add c x e p b hx he l =
    let n = lead_le c x in
    top-is (λ (t : ℕ). has t (x ⊻ e)) (64 * c) p (omega arith)
    (has-⊻ p x e ∙ ap₂ ◌⊕◌ (lead-holds c x p hx) (lead_above c e p (omega arith) (omega arith)))
    (λ t m k. has-⊻ t x e ∙ ap₂ ◌⊕◌ (lead_above c x t (omega arith) k) (lead_above c e t (omega arith) k))

pub lead-⊻_le : (c g : ℕ) (x y : Row) → lead c x ≤ g → lead c y ≤ g → lead c (x ⊻ y) ≤ g
lead-⊻_le c g x y hx hy = go (lead c (x ⊻ y)) refl
  where
    go : (n : ℕ) → lead c (x ⊻ y) ≡ n → n ≤ g
    go zero q = omega arith
    go (suc b) q =
        let l = lead_le c (x ⊻ y) in
        ⊎_elim (λ (w : g ≤ b). absurd (not-both (lead-holds c (x ⊻ y) b q) (has-⊻ b x y ∙ ap₂ ◌⊕◌ (lead_above c x b (omega arith) (omega arith)) (lead_above c y b (omega arith) (omega arith)))))
        (λ (w : b < g). w) (le_or_lt g b)
