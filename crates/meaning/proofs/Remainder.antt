-- The check bits: the last r bits of what the check polynomial divides are the remainder of what stands before them.
--     check-bits        free bits keep the check exactly when the last r are the remainder of the leading bits and the payload
use mathlib.Core.Path.{◌≡◌, refl, sym, ap, ap₂, ◌∙◌}
use mathlib.Core.Logic.{◌↔◌}
use Prim.Native.Nat.{ℕ, suc, ◌+◌, ◌-◌}
use native.Mathlib.Omega.{arith}
use lib.Dec.{eqb}
use mathlib.Core.Bool.{Bool, true, false, ◌&&◌}
use mathlib.Core.List.{List, [], ◌∷◌, ◌++◌, map, append_assoc, append-nil}
use lib.ListN.{length, replicate, length-append, length-map}
use Rattle.bits.specs.Vectors.{any, ◌⊞◌, zeros}
use Rattle.bits.proofs.Xor.{⊞-comm, length-⊞, none, ⊞-none, length_none, ⊞-self, zeros-none, zeros_eq}
use Rattle.bits.proofs.Tests.{length-tab}
use Rattle.meaning.specs.Limits.{leads}
use Rattle.meaning.specs.Payload.{remainder}
use Rattle.meaning.specs.Check.{terms, shift, rest, poly, divides}
use Rattle.meaning.proofs.Affine.{rest-⊞}

-- ---- the check

pub rest_append : (g s u v : List Bool) → rest g s (u ++ v) ≡ rest g (rest g s u) v
rest_append g s [] v = refl
rest_append g s (b ∷ u) v = rest_append g (shift g s b) u v

pub scale_none : (g : List Bool) → map (λ (x : Bool). false) g ≡ none (length g)
unfolding none
scale_none [] = refl
scale_none (x ∷ g) = ap {B = List Bool} (λ t. false ∷ t) (scale_none g)

pub length_shift : (g s : List Bool) (b : Bool) → length s ≡ length g → length (shift g s b) ≡ length g
length_shift g [] b h = h
length_shift g (o ∷ s) b h =
    let e : length (s ++ (b ∷ [])) ≡ length g = simp length-append (omega arith) in
    length-⊞ (s ++ (b ∷ [])) (map (λ (x : Bool). o && x) g) (e ∙ sym (length-map g (λ (x : Bool). o && x))) ∙ e

pub length_rest : (g s u : List Bool) → length s ≡ length g → length (rest g s u) ≡ length g
length_rest g s [] h = h
length_rest g s (b ∷ u) h = length_rest g (shift g s b) u (length_shift g s b h)

-- bits that are shifted in below a run of zeros, as long as they are, stay
pub rest-small : (g d c : List Bool) → length c + length d ≡ length g → rest g (none (length c) ++ d) c ≡ d ++ c
unfolding none
rest-small g d [] h = sym (append-nil d)
rest-small g d (b ∷ c) h =
    let l : length ((none (length c) ++ d) ++ (b ∷ [])) ≡ length g = simp (length-append, length_none) (omega arith) in
    ap (λ (s : List Bool). rest g s c)
    (ap (λ (t : List Bool). ((none (length c) ++ d) ++ (b ∷ [])) ⊞ t) (scale_none g) ∙ ⊞-none ((none (length c) ++ d) ++ (b ∷ [])) (length g) l ∙ append_assoc (none (length c)) d (b ∷ []))
    ∙ rest-small g (d ++ (b ∷ [])) c (simp length-append (omega arith)) ∙ append_assoc d (b ∷ []) c

-- so r bits that are shifted into zeros are what is left of them
pub rest_fills : (g c : List Bool) → length c ≡ length g → rest g (none (length g)) c ≡ c
rest_fills g c h = ap (λ (s : List Bool). rest g s c) (ap none (sym h) ∙ sym (append-nil (none (length c)))) ∙ rest-small g [] c (omega arith)

module _ (g p : List Bool) where
  rest-check : (c : List Bool) → length c ≡ length g → rest g (none (length g)) (p ++ c) ≡ remainder g p ⊞ c
  unfolding none remainder
  rest-check c h =
      let s : List Bool = rest g (none (length g)) p in
      let o : List Bool = none (length g) in
      let lo : length o ≡ length g = length_none (length g) in
      let ls : length s ≡ length g = length_rest g o p lo in
      rest_append g o p c
      ∙ ap₂ (λ (x y : List Bool). rest g x y) (sym (⊞-none s (length g) ls)) (sym (⊞-comm o c ∙ ⊞-none c (length g) h))
      ∙ rest-⊞ g s o o c (ls ∙ sym lo) (lo ∙ sym h)
      ∙ ap₂ ◌⊞◌ (sym (rest_append g o p o)) (rest_fills g c h)

pub length-remainder : (g p : List Bool) → length (remainder g p) ≡ length g
unfolding none remainder
length-remainder g p = length_rest g (none (length g)) (p ++ none (length g)) (length_none (length g))

pub length-poly : (r : ℕ) → length (poly r) ≡ r
unfolding poly
length-poly r = length-tab r (λ (k : ℕ). any (eqb (r - suc k)) (terms r))

-- the last r bits are the remainder of what stands before them
pub check_iff : (r : ℕ) (p c : List Bool) → length c ≡ r → (divides r (p ++ c) ≡ true) ↔ (c ≡ remainder (poly r) p)
unfolding none remainder
check_iff r p c lc =
    let lr : length (poly r) ≡ r = length-poly r in
    let lg : length c ≡ length (poly r) = lc ∙ sym lr in
    let e : rest (poly r) (replicate r false) (p ++ c) ≡ remainder (poly r) p ⊞ c = ap (λ (k : ℕ). rest (poly r) (replicate k false) (p ++ c)) (sym lr) ∙ rest-check (poly r) p c lg in
    let lm : length (remainder (poly r) p) ≡ length c = length-remainder (poly r) p ∙ sym lg in (
      λ h. sym (zeros_eq (remainder (poly r) p) c lm (sym (ap zeros e) ∙ h)),
      λ h. ap zeros (e ∙ ap (λ (t : List Bool). t ⊞ c) (sym h) ∙ ⊞-self c) ∙ zeros-none (length c),
    )

-- free bits that keep the check: the payload p, then the remainder of the leading bits and p, after shifting by r
pub check-bits : (r : ℕ) (p c : List Bool) → length c ≡ r → (divides r (leads r ++ (p ++ c)) ≡ true) ↔ (c ≡ remainder (poly r) (leads r ++ p))
check-bits r p c lc = rw (← (append_assoc (leads r) p c)) (check_iff r (leads r ++ p) c lc)
