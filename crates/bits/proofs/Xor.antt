-- The laws of XOR, of bits and of vectors; vectors of zeros.
--     ⊕-.., ⊞-..            commutative, associative, its own inverse
--     take-⊞, drop-⊞, append_⊞, get_or-⊞     place by place
--     none, is_none, ⊞-self, zeros_eq      vectors of zeros, and what they tell
use mathlib.Core.Path.{◌≡◌, refl, sym, ap, ap₂, ◌∙◌}
use Prim.Native.Nat.{ℕ, zero, suc}
use native.Mathlib.Omega.{arith}
use native.Mathlib.Nat.{suc_inj}
use mathlib.Core.Bool.{Bool, true, false, ◌&&◌, not, false≢true}
use mathlib.Core.List.{List, [], ◌∷◌, ◌++◌}
use lib.ListN.{length, take, drop, get_or, replicate, length-replicate}
use Rattle.bits.specs.Vectors.{◌⊕◌, ◌⊞◌, zeros}

-- ---- bits

pub not-not : (a : Bool) → not (not a) ≡ a
not-not true = refl
not-not false = refl

pub ⊕-comm : (a b : Bool) → a ⊕ b ≡ b ⊕ a
⊕-comm true true = refl
⊕-comm true false = refl
⊕-comm false true = refl
⊕-comm false false = refl

pub ⊕-assoc : (a b c : Bool) → a ⊕ b ⊕ c ≡ a ⊕ (b ⊕ c)
⊕-assoc true true c = sym (not-not c)
⊕-assoc true false c = refl
⊕-assoc false b c = refl

pub ⊕-self : (a : Bool) → a ⊕ a ≡ false
⊕-self true = refl
⊕-self false = refl

pub ⊕-false : (a : Bool) → a ⊕ false ≡ a
⊕-false true = refl
⊕-false false = refl

pub ⊕-left-comm : (a b c : Bool) → a ⊕ (b ⊕ c) ≡ b ⊕ (a ⊕ c)
⊕-left-comm a b c = sym (⊕-assoc a b c) ∙ ap (λ (x : Bool). x ⊕ c) (⊕-comm a b) ∙ ⊕-assoc b a c

pub ⊕-swap : (a b c d : Bool) → a ⊕ b ⊕ (c ⊕ d) ≡ a ⊕ c ⊕ (b ⊕ d)
⊕-swap a b c d = simp (⊕-assoc, ⊕-left-comm)

pub ⊕-cancel : (a b : Bool) → a ⊕ b ⊕ b ≡ a
⊕-cancel a b = ⊕-assoc a b b ∙ ap (λ (x : Bool). a ⊕ x) (⊕-self b) ∙ ⊕-false a

-- ---- vectors

pub ⊞-comm : (u v : List Bool) → u ⊞ v ≡ v ⊞ u
⊞-comm [] [] = refl
⊞-comm [] (b ∷ v) = refl
⊞-comm (a ∷ u) [] = refl
⊞-comm (a ∷ u) (b ∷ v) = ap₂ {C = List Bool} ◌∷◌ (⊕-comm a b) (⊞-comm u v)

pub ⊞-assoc : (u v w : List Bool) → u ⊞ v ⊞ w ≡ u ⊞ (v ⊞ w)
⊞-assoc [] v w = refl
⊞-assoc (a ∷ u) [] w = refl
⊞-assoc (a ∷ u) (b ∷ v) [] = refl
⊞-assoc (a ∷ u) (b ∷ v) (c ∷ w) = ap₂ {C = List Bool} ◌∷◌ (⊕-assoc a b c) (⊞-assoc u v w)

pub ⊞-left-comm : (u v w : List Bool) → u ⊞ (v ⊞ w) ≡ v ⊞ (u ⊞ w)
⊞-left-comm u v w = sym (⊞-assoc u v w) ∙ ap (λ (x : List Bool). x ⊞ w) (⊞-comm u v) ∙ ⊞-assoc v u w

pub ⊞-swap : (a b c d : List Bool) → a ⊞ b ⊞ (c ⊞ d) ≡ a ⊞ c ⊞ (b ⊞ d)
⊞-swap a b c d = simp (⊞-assoc, ⊞-left-comm)

pub length-⊞ : (u v : List Bool) → length u ≡ length v → length (u ⊞ v) ≡ length u
length-⊞ [] v h = refl
length-⊞ (a ∷ u) [] h = absurd (omega arith)
length-⊞ (a ∷ u) (b ∷ v) h = ap suc (length-⊞ u v (suc_inj h))

pub ⊞-cancel : (u v : List Bool) → length u ≡ length v → u ⊞ v ⊞ v ≡ u
⊞-cancel [] v h = refl
⊞-cancel (a ∷ u) [] h = absurd (omega arith)
⊞-cancel (a ∷ u) (b ∷ v) h = ap₂ {C = List Bool} ◌∷◌ (⊕-cancel a b) (⊞-cancel u v (suc_inj h))

pub take-⊞ : (n : ℕ) (u v : List Bool) → take n (u ⊞ v) ≡ take n u ⊞ take n v
take-⊞ zero u v = refl
take-⊞ (suc n) [] v = refl
take-⊞ (suc n) (a ∷ u) [] = refl
take-⊞ (suc n) (a ∷ u) (b ∷ v) = ap {B = List Bool} (λ r. (a ⊕ b) ∷ r) (take-⊞ n u v)

⊞-nil : (u : List Bool) → u ⊞ [] ≡ []
⊞-nil [] = refl
⊞-nil (a ∷ u) = refl

pub drop-⊞ : (n : ℕ) (u v : List Bool) → drop n (u ⊞ v) ≡ drop n u ⊞ drop n v
drop-⊞ zero u v = refl
drop-⊞ (suc n) [] v = refl
drop-⊞ (suc n) (a ∷ u) [] = sym (⊞-nil (drop n u))
drop-⊞ (suc n) (a ∷ u) (b ∷ v) = drop-⊞ n u v

pub append_⊞ : (a b c d : List Bool) → length a ≡ length c → (a ++ b) ⊞ (c ++ d) ≡ (a ⊞ c) ++ (b ⊞ d)
append_⊞ [] b [] d h = refl
append_⊞ [] b (y ∷ c) d h = absurd (omega arith)
append_⊞ (x ∷ a) b [] d h = absurd (omega arith)
append_⊞ (x ∷ a) b (y ∷ c) d h = ap {B = List Bool} (λ r. (x ⊕ y) ∷ r) (append_⊞ a b c d (suc_inj h))

pub get_or-⊞ : (u v : List Bool) (i : ℕ) → length u ≡ length v → get_or (u ⊞ v) i false ≡ get_or u i false ⊕ get_or v i false
get_or-⊞ [] [] i h = refl
get_or-⊞ [] (b ∷ v) i h = absurd (omega arith)
get_or-⊞ (a ∷ u) [] i h = absurd (omega arith)
get_or-⊞ (a ∷ u) (b ∷ v) zero h = refl
get_or-⊞ (a ∷ u) (b ∷ v) (suc i) h = get_or-⊞ u v i (suc_inj h)

-- ---- bits that are equal

pub eq_⊕ : (a b : Bool) → not (a ⊕ b) ≡ true → a ≡ b
eq_⊕ true true h = refl
eq_⊕ true false h = absurd (false≢true h)
eq_⊕ false true h = absurd (false≢true h)
eq_⊕ false false h = refl

pub ⊕-eq : (a b : Bool) → a ≡ b → not (a ⊕ b) ≡ true
⊕-eq a b e = rw (e, ⊕-self)

pub and-⊕ : (o p x : Bool) → (o ⊕ p) && x ≡ (o && x) ⊕ (p && x)
and-⊕ true true x = sym (⊕-self x)
and-⊕ true false x = sym (⊕-comm x false)
and-⊕ false p x = refl

-- ---- lengths

pub same-⊞ : (a b c d : List Bool) → length a ≡ length c → length b ≡ length d → length (a ⊞ b) ≡ length (c ⊞ d)
same-⊞ [] b [] d h k = refl
same-⊞ [] b (y ∷ c) d h k = absurd (omega arith)
same-⊞ (x ∷ a) b [] d h k = absurd (omega arith)
same-⊞ (x ∷ a) [] (y ∷ c) [] h k = refl
same-⊞ (x ∷ a) [] (y ∷ c) (z ∷ d) h k = absurd (omega arith)
same-⊞ (x ∷ a) (z ∷ b) (y ∷ c) [] h k = absurd (omega arith)
same-⊞ (x ∷ a) (z ∷ b) (y ∷ c) (w ∷ d) h k = ap suc (same-⊞ a b c d (suc_inj h) (suc_inj k))

-- ---- vectors of zeros

unfoldable pub none : ℕ → List Bool
none m = replicate m false

pub ⊞-none : (u : List Bool) (m : ℕ) → length u ≡ m → u ⊞ none m ≡ u
unfolding none
⊞-none [] m h = refl
⊞-none (b ∷ u) zero h = absurd (omega arith)
⊞-none (true ∷ u) (suc m) h = ap {B = List Bool} (λ r. true ∷ r) (⊞-none u m (suc_inj h))
⊞-none (false ∷ u) (suc m) h = ap {B = List Bool} (λ r. false ∷ r) (⊞-none u m (suc_inj h))

pub length_none : (m : ℕ) → length (none m) ≡ m
unfolding none
length_none m = length-replicate m false

pub zeros-none : (m : ℕ) → zeros (none m) ≡ true
unfolding none
zeros-none zero = refl
zeros-none (suc m) = zeros-none m

pub is_none : (u : List Bool) → zeros u ≡ true → u ≡ none (length u)
unfolding none
is_none [] h = refl
is_none (true ∷ u) h = absurd (false≢true h)
is_none (false ∷ u) h = ap {B = List Bool} (λ r. false ∷ r) (is_none u h)

pub ⊞-self : (u : List Bool) → u ⊞ u ≡ none (length u)
unfolding none
⊞-self [] = refl
⊞-self (true ∷ u) = ap {B = List Bool} (λ r. false ∷ r) (⊞-self u)
⊞-self (false ∷ u) = ap {B = List Bool} (λ r. false ∷ r) (⊞-self u)

pub zeros_append : (u v : List Bool) → zeros (u ++ v) ≡ zeros u && zeros v
zeros_append [] v = refl
zeros_append (true ∷ u) v = refl
zeros_append (false ∷ u) v = zeros_append u v

pub zeros-⊞ : (u v : List Bool) → zeros u ≡ true → zeros v ≡ true → zeros (u ⊞ v) ≡ true
zeros-⊞ [] v h k = refl
zeros-⊞ (a ∷ u) [] h k = refl
zeros-⊞ (false ∷ u) (false ∷ v) h k = zeros-⊞ u v h k
zeros-⊞ (false ∷ u) (true ∷ v) h k = k
zeros-⊞ (true ∷ u) (b ∷ v) h k = absurd (false≢true h)

pub zeros_eq : (u v : List Bool) → length u ≡ length v → zeros (u ⊞ v) ≡ true → u ≡ v
zeros_eq [] [] h k = refl
zeros_eq [] (b ∷ v) h k = absurd (omega arith)
zeros_eq (a ∷ u) [] h k = absurd (omega arith)
zeros_eq (true ∷ u) (true ∷ v) h k = ap {B = List Bool} (λ t. true ∷ t) (zeros_eq u v (suc_inj h) k)
zeros_eq (true ∷ u) (false ∷ v) h k = absurd (false≢true k)
zeros_eq (false ∷ u) (true ∷ v) h k = absurd (false≢true k)
zeros_eq (false ∷ u) (false ∷ v) h k = ap {B = List Bool} (λ t. false ∷ t) (zeros_eq u v (suc_inj h) k)
