-- The published formula: x_j is the XOR of all u_i such that every bit set in j is set in i.
--     formula      the transform by halves is the formula
use mathlib.Core.Path.{◌≡◌, refl, sym, ap, ap₂, ◌∙◌}
use mathlib.Core.Logic.{◌⊎◌, inl, inr}
use Prim.Native.Nat.{ℕ, zero, suc, ◌+◌, ◌*◌, ◌-◌, ◌^◌, ◌<◌, suc-le-suc}
use native.Mathlib.Omega.{arith}
use native.Mathlib.Nat.{zero-add, suc-add, zero-lt-suc}
use mathlib.Core.Bool.{Bool, true, false, ◌&&◌}
use mathlib.Core.List.{List, [], ◌∷◌, ◌++◌}
use lib.ListN.{length, get_or, get_or-append}
use lib.Seq.{get_or-append-add}
use lib.Bits.{bit_and, and_block, and_le_l}
use native.Mathlib.Decide.{dec_lt}
use lib.Dec.{eqb, eqb-suc-suc, eqb→eq}
use Rattle.bits.specs.Vectors.{◌⊕◌, ◌⊞◌}
use Rattle.bits.proofs.Xor.{⊕-assoc, get_or-⊞, length-⊞}
use Rattle.meaning.specs.Transform.{polar, xor_of, covers}
use Rattle.meaning.proofs.Polar.{halves, polar_append, length-polar}

xor_of_append : (c : ℕ → Bool) (a b : List Bool) → xor_of c (a ++ b) ≡ xor_of c a ⊕ xor_of (λ (i : ℕ). c (length a + i)) b
xor_of_append c [] b = simp zero-add
xor_of_append c (x ∷ a) b = simp suc-add (rw (xor_of_append (λ (i : ℕ). c (suc i)) a b) (sym (⊕-assoc (c zero && x) (xor_of (λ (i : ℕ). c (suc i)) a) _)))

xor_of_ext : (c e : ℕ → Bool) (u : List Bool) → ((i : ℕ) → i < length u → c i ≡ e i) → xor_of c u ≡ xor_of e u
xor_of_ext c e [] h = refl
xor_of_ext c e (b ∷ u) h = ap₂ (λ (x y : Bool). (x && b) ⊕ y) (h zero (zero-lt-suc (length u)))
    (xor_of_ext (λ (i : ℕ). c (suc i)) (λ (i : ℕ). e (suc i)) u (λ i l. h (suc i) (suc-le-suc l)))

xor_of-none : (u : List Bool) → xor_of (λ (i : ℕ). false) u ≡ false
xor_of-none [] = refl
xor_of-none (b ∷ u) = xor_of-none u

eqb_add : (k m n : ℕ) → eqb (k + m) (k + n) ≡ eqb m n
eqb_add zero m n = rw (zero-add m, zero-add n)
eqb_add (suc k) m n = rw (suc-add k m, suc-add k n, eqb-suc-suc) (eqb_add k m n)

eqb_lt : (m n : ℕ) → m < n → eqb m n ≡ false
eqb_lt m n h = go (eqb m n) refl
  where
    go : (b : Bool) → eqb m n ≡ b → b ≡ false
    go false e = refl
    go true e = absurd (let q : m ≡ n = eqb→eq m n (rw e tt) in omega arith)

module _ (n j i : ℕ) (hj : j < 2 ^ n) (hi : i < 2 ^ n) where
  covers_low : covers j (2 ^ n + i) ≡ covers j i
  unfolding covers
  covers_low =
      let i₁ : 2 ^ n + i ≡ 1 * 2 ^ n + i = omega arith in
      let j₀ : j ≡ 0 * 2 ^ n + j = omega arith in
      let e : bit_and (2 ^ n + i) j ≡ bit_and i j = ap₂ bit_and i₁ j₀ ∙ and_block n 1 0 i j hi hj ∙ omega arith in
      ap (λ (x : ℕ). eqb x j) e

  covers-none : covers (2 ^ n + j) i ≡ false
  unfolding covers
  covers-none = eqb_lt (bit_and i (2 ^ n + j)) (2 ^ n + j) (omega (arith, and_le_l i (2 ^ n + j)))

  covers_high : covers (2 ^ n + j) (2 ^ n + i) ≡ covers j i
  unfolding covers
  covers_high =
      let i₁ : 2 ^ n + i ≡ 1 * 2 ^ n + i = omega arith in
      let j₁ : 2 ^ n + j ≡ 1 * 2 ^ n + j = omega arith in
      let e : bit_and (2 ^ n + i) (2 ^ n + j) ≡ 2 ^ n + bit_and i j = ap₂ bit_and i₁ j₁ ∙ and_block n 1 1 i j hi hj ∙ omega arith in
      ap (λ (x : ℕ). eqb x (2 ^ n + j)) e ∙ eqb_add (2 ^ n) (bit_and i j) j

pub side : (m j : ℕ) → (j < m) ⊎ ((k : ℕ) × (j ≡ m + k))
side m j = go (dec_lt j m)
  where
    go : Dec (j < m) → (j < m) ⊎ ((k : ℕ) × (j ≡ m + k))
    go (yes h) = inl h
    go (no h) = inr (j - m, omega arith)

pub get_or-from : (xs ys : List Bool) (m k : ℕ) → length xs ≡ m → get_or (xs ++ ys) (m + k) false ≡ get_or ys k false
get_or-from xs ys m k e = rw (← e) (get_or-append-add xs ys k false)

one : (b : Bool) (j : ℕ) → j < 2 ^ 0 → get_or (polar 0 (b ∷ [])) j false ≡ xor_of (covers j) (b ∷ [])
unfolding polar covers
one true zero h = refl
one false zero h = refl
one b (suc j) h = absurd (omega arith)

abbrev At : ℕ → List Bool → Type 0
At n u = (j : ℕ) → j < 2 ^ n → get_or (polar n u) j false ≡ xor_of (covers j) u

two : (n : ℕ) (a b : List Bool) → length a ≡ 2 ^ n → length b ≡ 2 ^ n → At n a → At n b → At (suc n) (a ++ b)
two n a b ha hb ia ib j h = rw (polar_append n a b ha, xor_of_append, ha) (go (side (2 ^ n) j))
  where
    lv : length (polar n a) ≡ 2 ^ n
    lv = length-polar n a ha

    lw : length (polar n b) ≡ 2 ^ n
    lw = length-polar n b hb

    l : length (polar n a ⊞ polar n b) ≡ 2 ^ n
    l = length-⊞ (polar n a) (polar n b) (lv ∙ sym lw) ∙ lv

    go : (j < 2 ^ n) ⊎ ((k : ℕ) × (j ≡ 2 ^ n + k))
        → get_or ((polar n a ⊞ polar n b) ++ polar n b) j false ≡ xor_of (covers j) a ⊕ xor_of (λ (i : ℕ). covers j (2 ^ n + i)) b
    go (inl q) =
        get_or-append (polar n a ⊞ polar n b) (polar n b) false j (omega (arith, l)) ∙ get_or-⊞ (polar n a) (polar n b) j (lv ∙ sym lw)
        ∙ ap₂ ◌⊕◌ (ia j q) (ib j q ∙ xor_of_ext (covers j) (λ (i : ℕ). covers j (2 ^ n + i)) b (λ i t. sym (covers_low n j i q (omega arith))))
    go (inr t) =
        let k = t.0 in
        let q : k < 2 ^ n = omega (arith, t.1) in
        rw t.1
        (get_or-from (polar n a ⊞ polar n b) (polar n b) (2 ^ n) k l ∙ ib k q
        ∙ ap₂ ◌⊕◌ (sym (xor_of_ext (covers (2 ^ n + k)) (λ (i : ℕ). false) a (λ i p. covers-none n k i q (omega arith)) ∙ xor_of-none a))
        (sym (xor_of_ext (λ (i : ℕ). covers (2 ^ n + k) (2 ^ n + i)) (covers k) b (λ i p. covers_high n k i q (omega arith)))))

pub formula : (n : ℕ) (u : List Bool) → length u ≡ 2 ^ n → (j : ℕ) → j < 2 ^ n → get_or (polar n u) j false ≡ xor_of (covers j) u
formula = halves At one two
