-- Bits, vectors of bits and tests over lists.
--     _⊕_, _⊞_               the XOR of two bits; of two vectors, place by place
--     all_bits n              all vectors of n bits, in rising order
--     before, Rises          the order of vectors; a list that rises
--     filter, any, all, count, tab     lists of anything
--     first_place p l         the place of the first that passes
--     ones, zeros, same      how many bits are 1; none is 1; two vectors are equal
--     odd m u                an odd number of the places that m names hold 1 in u
use Rattle.std.specs.Prelude.{ℕ, zero, suc, ◌+◌, ◌≡◌, Bool, true, false, ◌&&◌, ◌||◌, not, List, [], ◌∷◌, ◌++◌, map}

infixl 40 ◌⊕◌
infixl 40 ◌⊞◌
-- the XOR of two bits
abbrev pub ◌⊕◌ : Bool → Bool → Bool
true ⊕ b = not b
false ⊕ b = b

-- the XOR of two vectors, place by place
abbrev pub ◌⊞◌ : List Bool → List Bool → List Bool
[] ⊞ w = []
(a ∷ v) ⊞ [] = []
(a ∷ v) ⊞ (b ∷ w) = (a ⊕ b) ∷ (v ⊞ w)

-- a bit as the number 0 or 1
abbrev pub bit : Bool → ℕ
bit true = 1
bit false = 0

-- a if the test holds, else b
abbrev pub pick {ℓ} : {A : Type ℓ} → Bool → A → A → A
pick true a b = a
pick false a b = b

module _ {ℓ} {A : Type ℓ} where
  abbrev pub keep : Bool → A → List A → List A
  keep true a l = a ∷ l
  keep false a l = l

  -- those that pass
  abbrev pub filter : (A → Bool) → List A → List A
  filter p [] = []
  filter p (a ∷ l) = keep (p a) a (filter p l)

  -- whether one passes
  abbrev pub any : (A → Bool) → List A → Bool
  any p [] = false
  any p (a ∷ l) = p a || any p l

  -- whether all pass
  abbrev pub all : (A → Bool) → List A → Bool
  all p [] = true
  all p (a ∷ l) = p a && all p l

  -- how many pass
  abbrev pub count : (A → Bool) → List A → ℕ
  count p [] = zero
  count p (a ∷ l) = bit (p a) + count p l

  -- the place of the first that passes, or the length where none does
  abbrev pub first_place : (A → Bool) → List A → ℕ
  first_place p [] = zero
  first_place p (a ∷ l) = pick (p a) zero (suc (first_place p l))

  -- f 0, f 1, .. up to n of them
  abbrev pub tab : ℕ → (ℕ → A) → List A
  tab zero f = []
  tab (suc n) f = f zero ∷ tab n (λ (i : ℕ). f (suc i))

-- ---- all vectors of a length, and their order

-- all vectors of a length, in the order that compares from the first place on, 0 before 1
unfoldable pub all_bits : ℕ → List (List Bool)
all_bits zero = [] ∷ []
all_bits (suc n) = let t = all_bits n in map (λ (v : List Bool). false ∷ v) t ++ map (λ (v : List Bool). true ∷ v) t

-- 0 before 1 at the first place where they differ
abbrev pub before : List Bool → List Bool → Bool
before [] w = false
before (a ∷ v) [] = false
before (false ∷ v) (false ∷ w) = before v w
before (false ∷ v) (true ∷ w) = true
before (true ∷ v) (false ∷ w) = false
before (true ∷ v) (true ∷ w) = before v w

abbrev pub Before : List Bool → List Bool → Type 0
Before v w = before v w ≡ true

module _ {A : Type 0} (lt : A → A → Type 0) where
  -- x stands before each of l
  abbrev pub Below : A → List A → Type 0
  Below x [] = Unit {0}
  Below x (y ∷ l) = lt x y × Below x l

  -- each of the list stands before all that follow it
  abbrev pub Rises : List A → Type 0
  Rises [] = Unit {0}
  Rises (x ∷ l) = Below x l × Rises l

-- ---- tests of vectors

-- how many bits are 1
abbrev pub ones : List Bool → ℕ
ones v = count (λ (b : Bool). b) v

-- whether all bits are 0
abbrev pub zeros : List Bool → Bool
zeros v = all not v

-- whether two vectors of one length are equal
abbrev pub same : List Bool → List Bool → Bool
same a b = zeros (a ⊞ b)

-- whether an odd number of the named places hold 1
abbrev pub odd : List Bool → List Bool → Bool
odd [] u = false
odd (m ∷ ms) [] = false
odd (m ∷ ms) (b ∷ u) = (m && b) ⊕ odd ms u
