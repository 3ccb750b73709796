-- The check polynomial divides: the remainder is zero exactly when a quotient exists.
--     times g q       D^r + g times q
--     divides_iff     the law
use mathlib.Core.Path.{◌≡◌, refl, sym, ap, ap₂, ◌∙◌}
use mathlib.Core.Logic.{◌↔◌}
use Prim.Native.Nat.{ℕ, zero, suc, ◌+◌}
use native.Mathlib.Omega.{arith}
use native.Mathlib.Nat.{suc_inj}
use mathlib.Core.Bool.{Bool, true, false, ◌&&◌}
use mathlib.Core.List.{List, [], ◌∷◌, ◌++◌, map, append_assoc, append-nil, map-id}
use lib.ListN.{length, replicate, length-append, length-map}
use Rattle.bits.specs.Vectors.{◌⊞◌, zeros}
use Rattle.bits.proofs.Xor.{⊕-false, ⊞-comm, ⊞-cancel, length-⊞, none, ⊞-none, length_none, ⊞-self, is_none, zeros-none}
use Rattle.meaning.specs.Check.{shift, rest, poly, divides}
use Rattle.meaning.proofs.Affine.{rest-⊞}
use Rattle.meaning.proofs.Remainder.{length-poly, rest_append, rest_fills, scale_none, length_rest}

abbrev pub scale : Bool → List Bool → List Bool
scale b g = map (λ (x : Bool). b && x) g

-- D^r + g times q, highest power first: it has r more bits than q
abbrev pub times : List Bool → List Bool → List Bool
times g [] = none (length g)
times g (b ∷ q) = b ∷ ((scale b g ++ none (length q)) ⊞ times g q)

module _ (g : List Bool) where
  abbrev pub R : List Bool → List Bool
  R f = rest g (none (length g)) f

  length_scale : (b : Bool) (k : ℕ) → length (scale b g ++ none k) ≡ length g + k
  length_scale b k = simp (length-append, length-map, length_none)

  pub length_times : (q : List Bool) → length (times g q) ≡ length g + length q
  length_times [] = length_none (length g) ∙ omega arith
  length_times (b ∷ q) =
      let l = length_times q in
      ap suc (length-⊞ (scale b g ++ none (length q)) (times g q) (length_scale b (length q) ∙ sym l) ∙ length_scale b (length q)) ∙ omega arith

  -- one bit, shifted in below zeros
  low : (k : ℕ) (b : Bool) → length g ≡ suc k → shift g (none (suc k)) b ≡ none k ++ (b ∷ [])
  unfolding none
  low k b h =
      let l : length (none k ++ (b ∷ [])) ≡ length g = simp (length-append, length_none) (omega arith) in
      ap (λ (t : List Bool). (none k ++ (b ∷ [])) ⊞ t) (scale_none g) ∙ ⊞-none (none k ++ (b ∷ [])) (length g) l

  none_end : (k : ℕ) → none k ++ (false ∷ []) ≡ none (suc k)
  unfolding none
  none_end zero = refl
  none_end (suc k) = ap {B = List Bool} (λ t. false ∷ t) (none_end k)

  low-false : (m : ℕ) → length g ≡ m → shift g (none m) false ≡ none m
  unfolding none
  low-false zero h = refl
  low-false (suc k) h = low k false h ∙ none_end k

  R-false : (v : List Bool) → R (false ∷ v) ≡ R v
  R-false v = ap (λ (s : List Bool). rest g s v) (low-false (length g) refl)

  pub R-zeros : (k : ℕ) (v : List Bool) → R (none k ++ v) ≡ R v
  unfolding none
  R-zeros zero v = refl
  R-zeros (suc k) v = R-false (none k ++ v) ∙ R-zeros k v

  R-none : (k : ℕ) → R (none k) ≡ none (length g)
  R-none k = ap R (sym (append-nil (none k))) ∙ R-zeros k []

  full : (k : ℕ) (d c : List Bool) → length c ≡ suc k → length c + length d ≡ length g → rest g (none k ++ (true ∷ d)) c ≡ (d ++ c) ⊞ g
  unfolding none
  full k d [] h l = absurd (omega arith)
  full zero d (x ∷ []) h l = ap (λ (t : List Bool). (d ++ (x ∷ [])) ⊞ t) (map-id g)
  full zero d (x ∷ y ∷ c) h l = absurd (omega arith)
  full (suc k) d (x ∷ c) h l =
      let s : List Bool = (none k ++ (true ∷ d)) ++ (x ∷ []) in
      let ls : length s ≡ length g = simp (length-append, length_none) (omega arith) in
      ap (λ (t : List Bool). rest g t c) (ap (λ (t : List Bool). s ⊞ t) (scale_none g) ∙ ⊞-none s (length g) ls ∙ append_assoc (none k) (true ∷ d) (x ∷ []))
      ∙ full k (d ++ (x ∷ [])) c (suc_inj h) (simp length-append (omega arith)) ∙ ap (λ (t : List Bool). t ⊞ g) (append_assoc d (x ∷ []) c)

  rest_empty : (u : List Bool) → rest g [] u ≡ []
  rest_empty [] = refl
  rest_empty (b ∷ u) = rest_empty u

  R-top : (m : ℕ) → length g ≡ m → rest g (shift g (none m) true) g ≡ none m
  unfolding none
  R-top zero h = rest_empty g
  R-top (suc k) h = ap (λ (s : List Bool). rest g s g) (low k true h) ∙ full k [] g h (omega arith) ∙ ⊞-self g ∙ ap none h

  R-scale : (b : Bool) (k : ℕ) → R (b ∷ (scale b g ++ none k)) ≡ none (length g)
  R-scale true k =
      ap (λ (t : List Bool). R (true ∷ (t ++ none k))) (map-id g) ∙ rest_append g (shift g (none (length g)) true) g (none k)
      ∙ ap (λ (s : List Bool). rest g s (none k)) (R-top (length g) refl) ∙ R-none k
  R-scale false k =
      R-false (scale false g ++ none k) ∙ ap (λ (t : List Bool). R (t ++ none k)) (scale_none g) ∙ rest_append g (none (length g)) (none (length g)) (none k)
      ∙ ap (λ (s : List Bool). rest g s (none k)) (R-none (length g)) ∙ R-none k

  pub R-⊞ : (u v : List Bool) → length u ≡ length v → R (u ⊞ v) ≡ R u ⊞ R v
  R-⊞ u v h =
      ap (λ (s : List Bool). rest g s (u ⊞ v)) (sym (⊞-none (none (length g)) (length g) (length_none (length g)))) ∙ rest-⊞ g (none (length g)) (none (length g)) u v refl h

  -- the highest bit of f and what it takes away
  R-step : (b : Bool) (k : ℕ) (f : List Bool) → length f ≡ length g + k → R (b ∷ ((scale b g ++ none k) ⊞ f)) ≡ R f
  R-step b k f h =
      let l : length (scale b g ++ none k) ≡ length f = length_scale b k ∙ sym h in
      ap (λ (t : Bool). R (t ∷ ((scale b g ++ none k) ⊞ f))) (sym (⊕-false b)) ∙ R-⊞ (b ∷ (scale b g ++ none k)) (false ∷ f) (ap suc l)
      ∙ ap₂ ◌⊞◌ (R-scale b k) (R-false f) ∙ ⊞-comm (none (length g)) (R f) ∙ ⊞-none (R f) (length g) (length_rest g (none (length g)) f (length_none (length g)))

  pub R-times : (q : List Bool) → R (times g q) ≡ none (length g)
  R-times [] = R-none (length g)
  R-times (b ∷ q) = R-step b (length q) (times g q) (length_times q) ∙ R-times q

  pub quotient : (k : ℕ) (f : List Bool) → length f ≡ length g + k → R f ≡ none (length g) → (q : List Bool) × (length q ≡ k) × (f ≡ times g q)
  quotient zero f h e =
      ([], refl, sym (rest_fills g f (omega arith)) ∙ e)
  quotient (suc k) [] h e = absurd (omega arith)
  quotient (suc k) (b ∷ f) h e =
      let s : List Bool = scale b g ++ none k in
      let lf : length f ≡ length g + k = omega arith in
      let ls : length s ≡ length f = length_scale b k ∙ sym lf in
      let back : s ⊞ (s ⊞ f) ≡ f = ap (λ (t : List Bool). s ⊞ t) (⊞-comm s f) ∙ ⊞-comm s (f ⊞ s) ∙ ⊞-cancel f s (sym ls) in
      let l : length (s ⊞ f) ≡ length g + k = length-⊞ s f ls ∙ length_scale b k in
      let (q, lq, eq) = quotient k (s ⊞ f) l (sym (R-step b k (s ⊞ f) l) ∙ ap (λ (t : List Bool). R (b ∷ t)) back ∙ e) in
      (b ∷ q, ap suc lq, ap {B = List Bool} (λ t. b ∷ t) (sym back ∙ ap₂ (λ (m : ℕ) (t : List Bool). (scale b g ++ none m) ⊞ t) (sym lq) eq))

-- f has r bits more than the quotient
pub divides_iff : (r k : ℕ) (f : List Bool) → length f ≡ r + k → (divides r f ≡ true) ↔ ((q : List Bool) × (length q ≡ k) × (f ≡ times (poly r) q))
unfolding none
divides_iff r k f lf =
    let lr : length (poly r) ≡ r = length-poly r in
    let g : List Bool = poly r in
    let e : rest g (replicate r false) f ≡ rest g (none (length g)) f = ap (λ (m : ℕ). rest g (replicate m false) f) (sym lr) in
    let l = length_rest g (none (length g)) f (length_none (length g)) in (
      λ h. quotient g k f (omega arith) (is_none (rest g (none (length g)) f) (sym (ap zeros e) ∙ h) ∙ ap none l),
      λ (q, lq, eq). ap zeros (e ∙ ap (rest g (none (length g))) eq ∙ R-times g q) ∙ zeros-none (length g),
    )
