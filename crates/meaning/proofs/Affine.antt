-- The rules and the check are affine: three vectors that keep them have a sum that does. Agreement is, too.
--     keeps-three                   three vectors that keep rules and check
--     agrees-clear, clear-agrees    two that agree differ only in erased places
use mathlib.Core.Path.{◌≡◌, refl, sym, ap, ap₂, ◌∙◌}
use Prim.Native.Nat.{ℕ, zero, suc, ◌+◌}
use native.Mathlib.Omega.{arith}
use native.Mathlib.Nat.{suc_inj}
use mathlib.Core.Bool.{Bool, true, false, ◌&&◌, ◌||◌, not, false≢true}
use mathlib.Core.List.{List, [], ◌∷◌, ◌++◌, map}
use lib.ListN.{length, replicate, length-append, length-map}
use Rattle.bits.specs.Vectors.{◌⊕◌, ◌⊞◌, zeros, odd}
use Rattle.bits.proofs.Tests.{and_l, and_r, and_i}
use Rattle.bits.proofs.Xor.{⊕-swap, ⊞-swap, append_⊞, length-⊞, same-⊞, zeros-⊞, eq_⊕, ⊕-eq, and-⊕, ⊞-comm, ⊞-cancel}
use Rattle.meaning.specs.Check.{keeps_rules, free_bits, shift, rest, poly, divides, keeps}
use Rattle.meaning.specs.Codewords.{fits, agrees, erased}
use Rattle.meaning.specs.Open.{clear}
use Rattle.meaning.specs.Limits.{leads}
use Rattle.meaning.specs.Sheet.{Rule, free, frozen}

-- ---- lengths

pub same-free : (ks : List Rule) (u v : List Bool) → length u ≡ length v → length (free_bits ks u) ≡ length (free_bits ks v)
same-free [] u v h = refl
same-free (k ∷ ks) [] [] h = refl
same-free (k ∷ ks) [] (b ∷ v) h = absurd (omega arith)
same-free (k ∷ ks) (a ∷ u) [] h = absurd (omega arith)
same-free (free ∷ ks) (a ∷ u) (b ∷ v) h = ap suc (same-free ks u v (suc_inj h))
same-free (frozen c m ∷ ks) (a ∷ u) (b ∷ v) h = same-free ks u v (suc_inj h)

-- ---- the check is linear

free-⊞ : (ks : List Rule) (u v : List Bool) → length u ≡ length v → free_bits ks (u ⊞ v) ≡ free_bits ks u ⊞ free_bits ks v
free-⊞ [] u v h = refl
free-⊞ (k ∷ ks) [] [] h = refl
free-⊞ (k ∷ ks) [] (b ∷ v) h = absurd (omega arith)
free-⊞ (k ∷ ks) (a ∷ u) [] h = absurd (omega arith)
free-⊞ (free ∷ ks) (a ∷ u) (b ∷ v) h = ap {B = List Bool} (λ r. (a ⊕ b) ∷ r) (free-⊞ ks u v (suc_inj h))
free-⊞ (frozen c m ∷ ks) (a ∷ u) (b ∷ v) h = free-⊞ ks u v (suc_inj h)

scale_⊞ : (o p : Bool) (g : List Bool) → map (λ (x : Bool). (o ⊕ p) && x) g ≡ map (λ (x : Bool). o && x) g ⊞ map (λ (x : Bool). p && x) g
scale_⊞ o p [] = refl
scale_⊞ o p (x ∷ g) = ap₂ {C = List Bool} ◌∷◌ (and-⊕ o p x) (scale_⊞ o p g)

shift-⊞ : (g s t : List Bool) (a b : Bool) → length s ≡ length t → shift g (s ⊞ t) (a ⊕ b) ≡ shift g s a ⊞ shift g t b
shift-⊞ g [] [] a b h = refl
shift-⊞ g [] (p ∷ t) a b h = absurd (omega arith)
shift-⊞ g (o ∷ s) [] a b h = absurd (omega arith)
shift-⊞ g (o ∷ s) (p ∷ t) a b h =
    ap₂ ◌⊞◌ (sym (append_⊞ s (a ∷ []) t (b ∷ []) (suc_inj h))) (scale_⊞ o p g)
    ∙ ⊞-swap (s ++ (a ∷ [])) (t ++ (b ∷ [])) (map (λ (x : Bool). o && x) g) (map (λ (x : Bool). p && x) g)

same-shift : (g s t : List Bool) (a b : Bool) → length s ≡ length t → length (shift g s a) ≡ length (shift g t b)
same-shift g [] [] a b h = refl
same-shift g [] (p ∷ t) a b h = absurd (omega arith)
same-shift g (o ∷ s) [] a b h = absurd (omega arith)
same-shift g (o ∷ s) (p ∷ t) a b h =
    same-⊞ (s ++ (a ∷ [])) (map (λ (x : Bool). o && x) g) (t ++ (b ∷ [])) (map (λ (x : Bool). p && x) g)
    (simp length-append (omega arith)) (simp length-map)

pub rest-⊞ : (g s t u v : List Bool) → length s ≡ length t → length u ≡ length v → rest g (s ⊞ t) (u ⊞ v) ≡ rest g s u ⊞ rest g t v
rest-⊞ g s t [] [] h k = refl
rest-⊞ g s t [] (b ∷ v) h k = absurd (omega arith)
rest-⊞ g s t (a ∷ u) [] h k = absurd (omega arith)
rest-⊞ g s t (a ∷ u) (b ∷ v) h k = ap (λ (r : List Bool). rest g r (u ⊞ v)) (shift-⊞ g s t a b h) ∙ rest-⊞ g (shift g s a) (shift g t b) u v (same-shift g s t a b h) (suc_inj k)

none-⊞ : (r : ℕ) → replicate r false ≡ replicate r false ⊞ replicate r false
none-⊞ zero = refl
none-⊞ (suc r) = ap {B = List Bool} (λ t. false ∷ t) (none-⊞ r)

pub divides-⊞ : (r : ℕ) (u v : List Bool) → length u ≡ length v → divides r u ≡ true → divides r v ≡ true → divides r (u ⊞ v) ≡ true
divides-⊞ r u v h p q =
    ap (λ (s : List Bool). zeros (rest (poly r) s (u ⊞ v))) (none-⊞ r)
    ∙ ap zeros (rest-⊞ (poly r) (replicate r false) (replicate r false) u v refl h)
    ∙ zeros-⊞ (rest (poly r) (replicate r false) u) (rest (poly r) (replicate r false) v) p q

-- ---- the rules are affine

pub odd-⊞ : (m u v : List Bool) → length u ≡ length v → odd m (u ⊞ v) ≡ odd m u ⊕ odd m v
odd-⊞ [] u v h = refl
odd-⊞ (x ∷ m) [] [] h = refl
odd-⊞ (x ∷ m) [] (b ∷ v) h = absurd (omega arith)
odd-⊞ (x ∷ m) (a ∷ u) [] h = absurd (omega arith)
odd-⊞ (true ∷ m) (a ∷ u) (b ∷ v) h = ap (λ (r : Bool). a ⊕ b ⊕ r) (odd-⊞ m u v (suc_inj h)) ∙ ⊕-swap a b (odd m u) (odd m v)
odd-⊞ (false ∷ m) (a ∷ u) (b ∷ v) h = odd-⊞ m u v (suc_inj h)

three : (c x y z : Bool) → (c ⊕ x) ⊕ ((c ⊕ y) ⊕ (c ⊕ z)) ≡ c ⊕ (x ⊕ (y ⊕ z))
three true true true true = refl
three true true true false = refl
three true true false true = refl
three true true false false = refl
three true false true true = refl
three true false true false = refl
three true false false true = refl
three true false false false = refl
three false x y z = refl

module _ (u v w : List Bool) (h : length u ≡ length v) (k : length v ≡ length w) where
  pub rules-three : (ks : List Rule) (a b c : List Bool) → length a ≡ length b → length b ≡ length c
      → keeps_rules ks u a ≡ true → keeps_rules ks v b ≡ true → keeps_rules ks w c ≡ true → keeps_rules ks (u ⊞ (v ⊞ w)) (a ⊞ (b ⊞ c)) ≡ true
  rules-three [] a b c l m p q r = refl
  rules-three (s ∷ ks) [] b c l m p q r = refl
  rules-three (s ∷ ks) (x ∷ a) [] c l m p q r = absurd (omega arith)
  rules-three (s ∷ ks) (x ∷ a) (y ∷ b) [] l m p q r = absurd (omega arith)
  rules-three (free ∷ ks) (x ∷ a) (y ∷ b) (z ∷ c) l m p q r = rules-three ks a b c (suc_inj l) (suc_inj m) p q r
  rules-three (frozen o n ∷ ks) (x ∷ a) (y ∷ b) (z ∷ c) l m p q r =
      let lvw : length u ≡ length (v ⊞ w) = h ∙ sym (length-⊞ v w k) in
      let s : odd n (u ⊞ (v ⊞ w)) ≡ odd n u ⊕ (odd n v ⊕ odd n w) = odd-⊞ n u (v ⊞ w) lvw ∙ ap (λ (t : Bool). odd n u ⊕ t) (odd-⊞ n v w k) in
      let ex = eq_⊕ x (o ⊕ odd n u) (and_l (not (x ⊕ (o ⊕ odd n u))) _ p) in
      let ey = eq_⊕ y (o ⊕ odd n v) (and_l (not (y ⊕ (o ⊕ odd n v))) _ q) in
      let ez = eq_⊕ z (o ⊕ odd n w) (and_l (not (z ⊕ (o ⊕ odd n w))) _ r) in
      and_i _ _
      (⊕-eq (x ⊕ (y ⊕ z)) (o ⊕ odd n (u ⊞ (v ⊞ w))) (rw (ex, ey, ez, s) (three o (odd n u) (odd n v) (odd n w))))
      (rules-three ks a b c (suc_inj l) (suc_inj m) (and_r (not (x ⊕ (o ⊕ odd n u))) _ p) (and_r (not (y ⊕ (o ⊕ odd n v))) _ q) (and_r (not (z ⊕ (o ⊕ odd n w))) _ r))

  -- the check's sequences start with the same bits
  lead-three : (l a b c : List Bool) → l ++ (a ⊞ (b ⊞ c)) ≡ (l ++ a) ⊞ ((l ++ b) ⊞ (l ++ c))
  lead-three l a b c =
      sym (ap (λ (t : List Bool). (l ++ a) ⊞ t) (append_⊞ l b l c refl) ∙ append_⊞ l a (l ⊞ l) (b ⊞ c) (sym (length-⊞ l l refl))
      ∙ ap (λ (t : List Bool). t ++ (a ⊞ (b ⊞ c))) (⊞-comm l (l ⊞ l) ∙ ⊞-cancel l l refl))

  pub keeps-three : (ks : List Rule) (r : ℕ) → keeps ks r u ≡ true → keeps ks r v ≡ true → keeps ks r w ≡ true → keeps ks r (u ⊞ (v ⊞ w)) ≡ true
  unfolding keeps
  keeps-three ks r p q s =
      let lvw : length u ≡ length (v ⊞ w) = h ∙ sym (length-⊞ v w k) in
      let e : free_bits ks (u ⊞ (v ⊞ w)) ≡ free_bits ks u ⊞ (free_bits ks v ⊞ free_bits ks w) = free-⊞ ks u (v ⊞ w) lvw ∙ ap (λ (t : List Bool). free_bits ks u ⊞ t) (free-⊞ ks v w k) in
      let front : List Bool → List Bool = λ f. leads r ++ f in
      let luv : length (front (free_bits ks u)) ≡ length (front (free_bits ks v)) = simp length-append (ap (λ (m : ℕ). length (leads r) + m) (same-free ks u v h)) in
      let lw : length (front (free_bits ks v)) ≡ length (front (free_bits ks w)) = simp length-append (ap (λ (m : ℕ). length (leads r) + m) (same-free ks v w k)) in
      and_i _ _
      (rules-three ks u v w h k (and_l _ _ p) (and_l _ _ q) (and_l _ _ s))
      (rw (e, lead-three (leads r) (free_bits ks u) (free_bits ks v) (free_bits ks w)) (divides-⊞ r (front (free_bits ks u)) (front (free_bits ks v) ⊞ front (free_bits ks w))
      (luv ∙ sym (length-⊞ (front (free_bits ks v)) (front (free_bits ks w)) lw))
      (and_r (keeps_rules ks u u) _ p) (divides-⊞ r (front (free_bits ks v)) (front (free_bits ks w)) lw (and_r (keeps_rules ks v v) _ q) (and_r (keeps_rules ks w w) _ s))))

-- ---- agreement

-- two that agree differ only in erased places
pub agrees-clear : (w : List ℕ) (x y : List Bool) → agrees w x ≡ true → agrees w y ≡ true → clear (map erased w) (x ⊞ y) ≡ true
agrees-clear [] x y p q = refl
agrees-clear (s ∷ w) [] y p q = refl
agrees-clear (s ∷ w) (a ∷ x) [] p q = refl
agrees-clear (s ∷ w) (a ∷ x) (b ∷ y) p q =
    and_i _ _ (one s a b (and_l _ (agrees w x) p) (and_l _ (agrees w y) q)) (agrees-clear w x y (and_r (fits s a) _ p) (and_r (fits s b) _ q))
  where
    one : (t : ℕ) (c d : Bool) → fits t c ≡ true → fits t d ≡ true → erased t || not (c ⊕ d) ≡ true
    one zero false false h k = refl
    one zero false true h k = k
    one zero true d h k = absurd (false≢true h)
    one (suc zero) true true h k = refl
    one (suc zero) true false h k = k
    one (suc zero) false d h k = absurd (false≢true h)
    one (suc (suc t)) c d h k = refl

-- and what differs from one that agrees only in erased places agrees
pub clear-agrees : (w : List ℕ) (x y : List Bool) → length x ≡ length y → clear (map erased w) x ≡ true → agrees w y ≡ true → agrees w (x ⊞ y) ≡ true
clear-agrees [] x y l p q = refl
clear-agrees (s ∷ w) [] y l p q = refl
clear-agrees (s ∷ w) (a ∷ x) [] l p q = refl
clear-agrees (s ∷ w) (a ∷ x) (b ∷ y) l p q =
    and_i _ _ (one s a b (and_l _ (clear (map erased w) x) p) (and_l _ (agrees w y) q)) (clear-agrees w x y (suc_inj l) (and_r (erased s || not a) _ p) (and_r (fits s b) _ q))
  where
    one : (t : ℕ) (c d : Bool) → erased t || not c ≡ true → fits t d ≡ true → fits t (c ⊕ d) ≡ true
    one zero false d h k = k
    one zero true d h k = absurd (false≢true h)
    one (suc zero) false d h k = k
    one (suc zero) true d h k = absurd (false≢true h)
    one (suc (suc t)) c d h k = refl
