-- The symbols of the halves: how many they are, which are erased, and that a block agrees where both halves do.
--     length_lefts, length_rights     as many as the symbols of a half
--     lost_lefts, lost_rights         erased where either is; where both are
--     opens-symbols                   of a word's symbols, these are the positions that it leaves open
--     agrees_syms                      agreement with symbols of bits; `agrees-symbols`: as 01 has it for a word
--     agrees_halves                   the block's agreement, by its halves
use mathlib.Core.Path.{◌≡◌, refl, sym, ap, ap₂, ◌∙◌}
use Prim.Native.Nat.{ℕ, zero, suc, ◌^◌}
use native.Mathlib.Omega.{arith}
use native.Mathlib.Nat.{suc_inj}
use mathlib.Core.Bool.{Bool, true, false, ◌&&◌, ◌||◌, not, and_assoc}
use mathlib.Core.List.{List, [], ◌∷◌, ◌++◌, map}
use mathlib.Core.Option.{Option, none, some}
use lib.ListN.{length, length-map}
use Rattle.bits.specs.Vectors.{◌⊕◌, ◌⊞◌}
use Rattle.bits.proofs.Xor.{not-not, length-⊞}
use Rattle.meaning.specs.Transform.{polar}
use Rattle.meaning.specs.Codewords.{agrees, erased}
use Rattle.meaning.specs.Open.{either, both, opens, open_all}
use Rattle.meaning.proofs.Polar.{polar_append, length-polar}
use Rattle.meaning.proofs.Open.{open_list}
use Rattle.model.specs.Model.{Values, left_sym, right_sym, left_syms, right_syms, symbol}
use Rattle.model.specs.AtBits.{bits}
use Rattle.model.specs.Counted.{lost}

-- ---- over any values

module _ {A : Type 0} (𝓥 : Values A) where
  pub length_lefts : (m : ℕ) (a b : List (Option A)) → length a ≡ m → length b ≡ m → length (left_syms 𝓥 a b) ≡ m
  length_lefts m [] b h k = h
  length_lefts m (s ∷ a) [] h k = absurd (omega arith)
  length_lefts zero (s ∷ a) (t ∷ b) h k = absurd (omega arith)
  length_lefts (suc m) (s ∷ a) (t ∷ b) h k = ap suc (length_lefts m a b (suc_inj h) (suc_inj k))

  pub length_rights : (m : ℕ) (a b : List (Option A)) (v : List A) → length a ≡ m → length b ≡ m → length v ≡ m → length (right_syms 𝓥 a b v) ≡ m
  length_rights m [] b v h k l = h
  length_rights m (s ∷ a) [] v h k l = absurd (omega arith)
  length_rights m (s ∷ a) (t ∷ b) [] h k l = absurd (omega arith)
  length_rights zero (s ∷ a) (t ∷ b) (x ∷ v) h k l = absurd (omega arith)
  length_rights (suc m) (s ∷ a) (t ∷ b) (x ∷ v) h k l = ap suc (length_rights m a b v (suc_inj h) (suc_inj k) (suc_inj l))

  pub lost_lefts : (a b : List (Option A)) → map lost (left_syms 𝓥 a b) ≡ either (map lost a) (map lost b)
  lost_lefts [] b = refl
  lost_lefts (s ∷ a) [] = refl
  lost_lefts (s ∷ a) (t ∷ b) = ap₂ {C = List Bool} ◌∷◌ (one s t) (lost_lefts a b)
    where
      one : (s t : Option A) → lost (left_sym 𝓥 s t) ≡ lost s || lost t
      one none t = refl
      one (some x) none = refl
      one (some x) (some y) = refl

  pub lost_rights : (a b : List (Option A)) (v : List A) → length a ≡ length v → map lost (right_syms 𝓥 a b v) ≡ both (map lost a) (map lost b)
  lost_rights [] b v h = refl
  lost_rights (s ∷ a) [] v h = refl
  lost_rights (s ∷ a) (t ∷ b) [] h = absurd (omega arith)
  lost_rights (s ∷ a) (t ∷ b) (x ∷ v) h = ap₂ {C = List Bool} ◌∷◌ (one s t) (lost_rights a b v (suc_inj h))
    where
      one : (s t : Option A) → lost (right_sym 𝓥 s t x) ≡ lost s && lost t
      one none none = refl
      one none (some y) = refl
      one (some z) none = refl
      one (some z) (some y) = refl

  -- a word's symbols are erased where the word is
  lost-symbols : (w : List ℕ) → map lost (map (symbol 𝓥) w) ≡ map erased w
  lost-symbols [] = refl
  lost-symbols (s ∷ w) = ap₂ {C = List Bool} ◌∷◌ (one s) (lost-symbols w)
    where
      one : (s : ℕ) → lost (symbol 𝓥 s) ≡ erased s
      one zero = refl
      one (suc zero) = refl
      one (suc (suc s)) = refl

  pub opens-symbols : (n : ℕ) (w : List ℕ) → length w ≡ 2 ^ n → opens n (map lost (map (symbol 𝓥) w)) ≡ open_all n w
  unfolding open_all
  opens-symbols n w lw = ap (opens n) (lost-symbols w) ∙ sym (open_list n (map erased w) (length-map w erased ∙ lw))

-- ---- agreement

-- the bit is the symbol, or the symbol is erased
abbrev pub fits_sym : Option Bool → Bool → Bool
fits_sym none b = true
fits_sym (some a) b = not (a ⊕ b)

abbrev pub agrees_syms : List (Option Bool) → List Bool → Bool
agrees_syms [] x = true
agrees_syms (s ∷ w) [] = true
agrees_syms (s ∷ w) (b ∷ x) = fits_sym s b && agrees_syms w x

pub agrees_append : (a b : List (Option Bool)) (x y : List Bool) → length a ≡ length x → agrees_syms (a ++ b) (x ++ y) ≡ agrees_syms a x && agrees_syms b y
agrees_append [] b [] y h = refl
agrees_append [] b (c ∷ x) y h = absurd (omega arith)
agrees_append (s ∷ a) b [] y h = absurd (omega arith)
agrees_append (s ∷ a) b (c ∷ x) y h =
    ap (λ (r : Bool). fits_sym s c && r) (agrees_append a b x y (suc_inj h)) ∙ sym (and_assoc (fits_sym s c) (agrees_syms a x) (agrees_syms b y))

and_swap : (p r p' r' : Bool) → p && r ≡ p' && r' → (x y x' y' : Bool) → x && y ≡ x' && y' → (p && x) && (r && y) ≡ (p' && x') && (r' && y')
and_swap p r p' r' e x y x' y' f = ex p r x y ∙ ap₂ ◌&&◌ e f ∙ sym (ex p' r' x' y')
  where
    ex : (a b c d : Bool) → (a && c) && (b && d) ≡ (a && b) && (c && d)
    ex true true c d = refl
    ex true false true d = refl
    ex true false false d = refl
    ex false b c d = refl

-- by the four cases of two bits
split₂ : (P : Bool → Bool → Type 0) → P true true → P true false → P false true → P false false → (v w : Bool) → P v w
split₂ P a b c d true true = a
split₂ P a b c d true false = b
split₂ P a b c d false true = c
split₂ P a b c d false false = d

module _ (t : ℕ → Bool) where
  pub agrees-symbols : (w : List ℕ) (x : List Bool) → agrees_syms (map (symbol (bits t)) w) x ≡ agrees w x
  agrees-symbols [] x = refl
  agrees-symbols (s ∷ w) [] = refl
  agrees-symbols (zero ∷ w) (b ∷ x) = ap (λ (c : Bool). not b && c) (agrees-symbols w x)
  agrees-symbols (suc zero ∷ w) (b ∷ x) = ap₂ ◌&&◌ (not-not b) (agrees-symbols w x)
  agrees-symbols (suc (suc s) ∷ w) (b ∷ x) = agrees-symbols w x

  abbrev One : Option Bool → Option Bool → Bool → Bool → Type 0
  One r s v w = fits_sym r (v ⊕ w) && fits_sym s w ≡ fits_sym (left_sym (bits t) r s) v && fits_sym (right_sym (bits t) r s v) w

  one : (r s : Option Bool) (v w : Bool) → One r s v w
  one none none = λ v w. refl
  one none (some b) = λ v w. refl
  one (some true) none = split₂ (One (some true) none) refl refl refl refl
  one (some false) none = split₂ (One (some false) none) refl refl refl refl
  one (some true) (some true) = split₂ (One (some true) (some true)) refl refl refl refl
  one (some true) (some false) = split₂ (One (some true) (some false)) refl refl refl refl
  one (some false) (some true) = split₂ (One (some false) (some true)) refl refl refl refl
  one (some false) (some false) = split₂ (One (some false) (some false)) refl refl refl refl

  agrees-block : (a b : List (Option Bool)) (v w : List Bool) → length a ≡ length b → length a ≡ length v → length a ≡ length w
      → agrees_syms a (v ⊞ w) && agrees_syms b w ≡ agrees_syms (left_syms (bits t) a b) v && agrees_syms (right_syms (bits t) a b v) w
  agrees-block [] [] v w h k l = refl
  agrees-block [] (s ∷ b) v w h k l = absurd (omega arith)
  agrees-block (r ∷ a) [] v w h k l = absurd (omega arith)
  agrees-block (r ∷ a) (s ∷ b) [] w h k l = absurd (omega arith)
  agrees-block (r ∷ a) (s ∷ b) (x ∷ v) [] h k l = absurd (omega arith)
  agrees-block (r ∷ a) (s ∷ b) (x ∷ v) (y ∷ w) h k l =
      and_swap (fits_sym r (x ⊕ y)) (fits_sym s y) (fits_sym (left_sym (bits t) r s) x) (fits_sym (right_sym (bits t) r s x) y) (one r s x y)
      (agrees_syms a (v ⊞ w)) (agrees_syms b w) (agrees_syms (left_syms (bits t) a b) v) (agrees_syms (right_syms (bits t) a b v) w)
      (agrees-block a b v w (suc_inj h) (suc_inj k) (suc_inj l))

  pub agrees_halves : (n : ℕ) (a b : List (Option Bool)) (p q : List Bool) → length a ≡ 2 ^ n → length b ≡ 2 ^ n → length p ≡ 2 ^ n → length q ≡ 2 ^ n
      → agrees_syms (a ++ b) (polar (suc n) (p ++ q)) ≡ agrees_syms (left_syms (bits t) a b) (polar n p) && agrees_syms (right_syms (bits t) a b (polar n p)) (polar n q)
  agrees_halves n a b p q la lb lp lq =
      let lv = length-polar n p lp in
      let lw = length-polar n q lq in
      rw (polar_append n p q lp, agrees_append a b (polar n p ⊞ polar n q) (polar n q) (la ∙ sym (length-⊞ (polar n p) (polar n q) (lv ∙ sym lw) ∙ lv)))
      (agrees-block a b (polar n p) (polar n q) (la ∙ sym lb) (la ∙ sym lv) (la ∙ sym lw))
