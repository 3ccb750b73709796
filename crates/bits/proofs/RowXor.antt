-- The XOR of rows, and their bits.
--     get_or-⊻, length-⊻, ⊻-comm, ⊻-assoc, ⊻-left-comm, ⊻-self     the XOR word by word; its laws
--     get_or-nought, nought-⊻, one_⊻     a word of the row of zeros; a row of zeros added, and one with a single word
--     has-⊻, has-is          each bit of a sum; bit 64 k + j is bit j of word k
use mathlib.Core.Path.{◌≡◌, refl, sym, ap, ap₂, ◌∙◌}
use Prim.Native.Nat.{ℕ, zero, suc, ◌+◌, ◌*◌, ◌/◌, ◌%◌, ◌<◌}
use native.Mathlib.Omega.{arith}
use native.Mathlib.Nat.{suc_inj}
use mathlib.Core.List.{List, [], ◌∷◌}
use lib.ListN.{length, set, get_or}
use lib.Bits.{bit_xor, xor_zero_r, xor_zero_l, xor_comm, xor_self}
use Rattle.bits.specs.Vectors.{◌⊕◌}
use Rattle.bits.specs.Rows.{Row, ◌⊻◌, nought_row, has_at, has}
use Rattle.bits.proofs.Words.{xor_assoc}
use Rattle.bits.proofs.WordBits.{has_bit_xor}

-- ---- the XOR of rows

pub get_or-⊻ : (x y : Row) (k : ℕ) → get_or (x ⊻ y) k 0 ≡ bit_xor (get_or x k 0) (get_or y k 0)
unfolding ◌⊻◌
get_or-⊻ [] y k = sym (xor_zero_l (get_or y k 0))
get_or-⊻ (a ∷ x) [] k = sym (xor_zero_r (get_or (a ∷ x) k 0))
get_or-⊻ (a ∷ x) (b ∷ y) zero = refl
get_or-⊻ (a ∷ x) (b ∷ y) (suc k) = get_or-⊻ x y k

pub length-⊻ : (x y : Row) (w : ℕ) → length x ≡ w → length y ≡ w → length (x ⊻ y) ≡ w
unfolding ◌⊻◌
length-⊻ [] y w p q = q
length-⊻ (a ∷ x) [] w p q = p
length-⊻ (a ∷ x) (b ∷ y) zero p q = absurd (omega arith)
length-⊻ (a ∷ x) (b ∷ y) (suc w) p q = ap suc (length-⊻ x y w (suc_inj p) (suc_inj q))

pub ⊻-comm : (x y : Row) → x ⊻ y ≡ y ⊻ x
unfolding ◌⊻◌
⊻-comm [] [] = refl
⊻-comm [] (b ∷ y) = refl
⊻-comm (a ∷ x) [] = refl
⊻-comm (a ∷ x) (b ∷ y) = ap₂ {C = List ℕ} ◌∷◌ (xor_comm a b) (⊻-comm x y)

pub ⊻-assoc : (x y z : Row) → x ⊻ y ⊻ z ≡ x ⊻ (y ⊻ z)
unfolding ◌⊻◌
⊻-assoc [] y z = refl
⊻-assoc (a ∷ x) [] z = refl
⊻-assoc (a ∷ x) (b ∷ y) [] = refl
⊻-assoc (a ∷ x) (b ∷ y) (c ∷ z) = ap₂ {C = List ℕ} ◌∷◌ (xor_assoc a b c) (⊻-assoc x y z)

pub ⊻-left-comm : (x y z : Row) → x ⊻ (y ⊻ z) ≡ y ⊻ (x ⊻ z)
⊻-left-comm x y z = sym (⊻-assoc x y z) ∙ ap (λ (v : Row). v ⊻ z) (⊻-comm x y) ∙ ⊻-assoc y x z

pub ⊻-self : (x : Row) (w : ℕ) → length x ≡ w → x ⊻ x ≡ nought_row w
unfolding ◌⊻◌
⊻-self [] zero h = refl
⊻-self [] (suc w) h = absurd (omega arith)
⊻-self (a ∷ x) zero h = absurd (omega arith)
⊻-self (a ∷ x) (suc w) h = ap₂ {C = List ℕ} ◌∷◌ (xor_self a) (⊻-self x w (suc_inj h))

pub nought-⊻ : (w : ℕ) (x : Row) → length x ≡ w → nought_row w ⊻ x ≡ x
unfolding ◌⊻◌
nought-⊻ zero x h = refl
nought-⊻ (suc w) [] h = absurd (omega arith)
nought-⊻ (suc w) (a ∷ x) h = ap₂ {C = List ℕ} ◌∷◌ (xor_zero_l a) (nought-⊻ w x (suc_inj h))

pub get_or-nought : (w k : ℕ) → get_or (nought_row w) k 0 ≡ 0
get_or-nought zero k = refl
get_or-nought (suc w) zero = refl
get_or-nought (suc w) (suc k) = get_or-nought w k

-- a row of zeros but for one word, added
pub one_⊻ : (w c a : ℕ) (x : Row) → c < w → length x ≡ w → set (nought_row w) c a ⊻ x ≡ set x c (bit_xor a (get_or x c 0))
unfolding ◌⊻◌
one_⊻ zero c a x p h = absurd (omega arith)
one_⊻ (suc w) c a [] p h = absurd (omega arith)
one_⊻ (suc w) zero a (b ∷ x) p h = ap (λ (r : List ℕ). bit_xor a b ∷ r) (nought-⊻ w x (suc_inj h))
one_⊻ (suc w) (suc c) a (b ∷ x) p h = ap₂ {C = List ℕ} ◌∷◌ (xor_zero_l b) (one_⊻ w c a x (omega arith) (suc_inj h))

-- ---- bits

pub has-⊻ : (b : ℕ) (x y : Row) → has b (x ⊻ y) ≡ has b x ⊕ has b y
unfolding has_at
has-⊻ b x y = rw (get_or-⊻ x y (b / 64)) (has_bit_xor (get_or x (b / 64) 0) (get_or y (b / 64) 0) (b % 64))

pub word_of : (k j : ℕ) → j < 64 → (64 * k + j) / 64 ≡ k
word_of k j h = omega arith

pub place_of : (k j : ℕ) → j < 64 → (64 * k + j) % 64 ≡ j
place_of k j h = omega arith

pub has-is : (k j : ℕ) (x : Row) → j < 64 → has (64 * k + j) x ≡ has_at k j x
has-is k j x h = rw (word_of k j h, place_of k j h) refl
