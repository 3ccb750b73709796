-- What it is for that the check starts from ones: a stuck run of leading zeros is caught.
--     zeros_unseen       with nothing in front, as 01 had it, zeros put before a sequence go unseen
--     stuck_caught       free bits that are all 0 do not keep the check, however many they are
--     old_caught         nor do any free bits that kept the check as 01 had it
--     run_caught         free bits that keep the check do not, once a run of zeros is put before them: up to 62 for r = 6, 2046 for r = 11
--     run_unseen         63 zeros go unseen for r = 6, as D to the 63 is 1
--     stuck_read, stuck_decoded     a word of zeros, nothing lost, is inconsistent, and the output stays as found
use mathlib.Core.Path.{◌≡◌, refl, sym, ap, ap₂, ◌∙◌}
use mathlib.Core.Logic.{◌⊎◌, ⊎_elim}
use Prim.Native.Nat.{ℕ, zero, suc, ◌+◌, ◌^◌, ◌≤◌, ◌<◌}
use native.Mathlib.Omega.{arith}
use mathlib.Core.Bool.{Bool, true, false, ◌&&◌, not, false≢true}
use mathlib.Core.List.{List, [], ◌∷◌, ◌++◌, map, map-id}
use lib.ListN.{length, drop, get_or, replicate, length-append}
use lib.Dec.{eqb}
use Rattle.bits.specs.Vectors.{◌⊞◌, bit, keep, pick, zeros}
use Rattle.bits.proofs.Tests.{and_l, and_r, and-false}
use Rattle.bits.proofs.Xor.{append_⊞, none, ⊞-none, ⊞-self, length-⊞, length_none, is_none, zeros-none, zeros_append, zeros_eq}
use Rattle.meaning.specs.Limits.{leads}
use Rattle.meaning.specs.Transform.{polar}
use Rattle.meaning.specs.Sheet.{Rule, free, frozen, rules}
use Rattle.meaning.specs.Check.{keeps_rules, free_bits, shift, rest, poly, divides, keeps}
use Rattle.meaning.specs.Codewords.{candidates, payload_of}
use Rattle.meaning.specs.Open.{unknowns, equations}
use Rattle.meaning.specs.Answers.{is_one, refuses, form_refusals, read_refusals, leaving, writing, verdict, decoding, reading_back}
use Rattle.meaning.specs.declared.Answer.TheVariants.{Done, Inconsistent}
use Rattle.meaning.proofs.Open.{polar-none}
use Rattle.meaning.proofs.Gap.{nothing-lost}
use Rattle.meaning.proofs.ReadBack.{whole, read_is, ones_back}
use Rattle.meaning.proofs.Demands.{under}
use Rattle.meaning.proofs.Affine.{rest-⊞, divides-⊞}
use Rattle.meaning.proofs.Remainder.{length_shift, length_rest, length-poly, rest_append, scale_none}
use Rattle.meaning.proofs.Divide.{R-zeros}
use Rattle.meaning.proofs.Ones.{length-leads, starts_from}

-- ---- nothing in front

pub zeros_unseen : (r t : ℕ) (f : List Bool) → divides r (replicate t false ++ f) ≡ divides r f
unfolding none
zeros_unseen r t f =
    ap (λ (k : ℕ). zeros (rest (poly r) (replicate k false) (replicate t false ++ f))) (sym (length-poly r)) ∙ ap zeros (R-zeros (poly r) t f)
    ∙ ap (λ (k : ℕ). zeros (rest (poly r) (replicate k false) f)) (length-poly r)

-- ---- zeros shifted in: nothing but zeros becomes zeros, since the polynomial has the term 1

ends : (s h : List Bool) → s ++ (false ∷ []) ≡ h ++ (true ∷ []) → ⊥
ends [] [] e = false≢true (ap (λ (l : List Bool). get_or l 0 false) e)
ends [] (x ∷ h) e = let l : 1 ≡ suc (length h + 1) = ap length e ∙ ap suc (length-append h (true ∷ [])) in omega arith
ends (x ∷ s) [] e = let l : suc (length s + 1) ≡ 1 = sym (ap suc (length-append s (false ∷ []))) ∙ ap length e in omega arith
ends (x ∷ s) (y ∷ h) e = ends s h (ap (drop 1) e)

module _ (g h : List Bool) (term : g ≡ h ++ (true ∷ [])) where
  back : (s : List Bool) → length s ≡ length g → shift g s false ≡ none (length g) → s ≡ none (length g)
  unfolding none
  back [] l e = ap none l
  back (false ∷ s) l e =
      let ls : length (s ++ (false ∷ [])) ≡ length g = length-append s (false ∷ []) ∙ omega arith in
      let z : s ++ (false ∷ []) ≡ none (length g) = sym (ap (λ (t : List Bool). (s ++ (false ∷ [])) ⊞ t) (scale_none g) ∙ ⊞-none (s ++ (false ∷ [])) (length g) ls) ∙ e in
      ap {B = List Bool} (λ t. false ∷ t) (is_none s (and_l (zeros s) _ (sym (zeros_append s (false ∷ [])) ∙ ap zeros z ∙ zeros-none (length g)))) ∙ ap none l
  back (true ∷ s) l e =
      let ls : length (s ++ (false ∷ [])) ≡ length g = length-append s (false ∷ []) ∙ omega arith in
      let z : (s ++ (false ∷ [])) ⊞ g ≡ none (length g) = ap (λ (t : List Bool). (s ++ (false ∷ [])) ⊞ t) (sym (map-id g)) ∙ e in
      absurd (ends s h (zeros_eq (s ++ (false ∷ [])) g ls (ap zeros z ∙ zeros-none (length g)) ∙ term))

  back_all : (k : ℕ) (s : List Bool) → length s ≡ length g → rest g s (none k) ≡ none (length g) → s ≡ none (length g)
  unfolding none
  back_all zero s l e = e
  back_all (suc k) s l e = back s l (back_all k (shift g s false) (length_shift g s false l) e)

  -- a start that divides v, and divides it behind t zeros, comes back to itself after t zeros
  comes_back : (s v : List Bool) (t : ℕ) → length s ≡ length g → rest g s v ≡ none (length g) → rest g s (none t ++ v) ≡ none (length g) → rest g s (none t) ≡ s
  comes_back s v t l p q =
      let a : List Bool = rest g s (none t) in
      let la : length a ≡ length s = length_rest g s (none t) l ∙ sym l in
      let e : rest g (a ⊞ s) (none (length v)) ≡ none (length g) =
      ap (rest g (a ⊞ s)) (sym (⊞-self v)) ∙ rest-⊞ g a s v v la refl ∙ ap₂ ◌⊞◌ (sym (rest_append g s (none t) v) ∙ q) p ∙ ⊞-none (none (length g)) (length g) (length_none (length g)) in
      zeros_eq a s la (ap zeros (back_all (length v) (a ⊞ s) (length-⊞ a s la ∙ la ∙ l) e) ∙ zeros-none (length g))

-- ---- the two polynomials

-- there is a check
abbrev pub Check : ℕ → Type 0
Check r = (r ≡ 6) ⊎ (r ≡ 11)

-- both have the term 1
term : (r : ℕ) → Check r → (h : List Bool) × (poly r ≡ h ++ (true ∷ []))
unfolding poly
term r = ⊎_elim (λ e. rw e (true ∷ false ∷ false ∷ false ∷ false ∷ [], refl)) (λ e. rw e (true ∷ true ∷ false ∷ false ∷ false ∷ true ∷ false ∷ false ∷ false ∷ false ∷ [], refl))

-- zero by zero, m of them, the register x does not come to s
away : List Bool → List Bool → List Bool → ℕ → Bool
away g s x zero = true
away g s x (suc m) = not (zeros (shift g x false ⊞ s)) && away g s (shift g x false) m

away_at : (g s x : List Bool) (m t : ℕ) → away g s x m ≡ true → t < m → rest g x (none (suc t)) ≡ s → ⊥
unfolding away none
away_at g s x zero t h l e = omega arith
away_at g s x (suc m) zero h l e =
    let z : zeros (shift g x false ⊞ s) ≡ true = ap (λ (y : List Bool). zeros (y ⊞ s)) e ∙ ap zeros (⊞-self s) ∙ zeros-none (length s) in
    false≢true (sym (ap not z) ∙ and_l (not (zeros (shift g x false ⊞ s))) _ h)
away_at g s x (suc m) (suc t) h l e = away_at g s (shift g x false) m t (and_r (not (zeros (shift g x false ⊞ s))) _ h) (omega arith) e

-- every run of up to so many zeros is caught, whatever stands behind it
unfoldable pub longest_run : ℕ → ℕ
longest_run r = pick (eqb r 6) 62 2046

runs : (r : ℕ) → Check r → away (poly r) (leads r) (leads r) (longest_run r) ≡ true
unfolding longest_run poly leads away
runs r = ⊎_elim (λ e. rw e refl) (λ e. rw e refl)

-- ---- caught, and not

left-none : (r : ℕ) (v : List Bool) → divides r (leads r ++ v) ≡ true → rest (poly r) (leads r) v ≡ none (length (poly r))
left-none r v h =
    is_none (rest (poly r) (leads r) v) (sym (ap zeros (starts_from r v)) ∙ h) ∙ ap none (length_rest (poly r) (leads r) v (length-leads r ∙ sym (length-poly r)))

-- ones are not zeros
not_zeros : (r : ℕ) → Check r → zeros (leads r) ≡ false
unfolding leads
not_zeros r = ⊎_elim (λ e. rw e refl) (λ e. rw e refl)

refuted : (b : Bool) → (b ≡ true → ⊥) → b ≡ false
refuted true h = absurd (h refl)
refuted false h = refl

module _ (r : ℕ) (k : Check r) where
  full : length (leads r) ≡ length (poly r)
  full = length-leads r ∙ sym (length-poly r)

  pub stuck_caught : (m : ℕ) → divides r (leads r ++ replicate m false) ≡ false
  unfolding none
  stuck_caught m =
      let (h, e) = term r k in
      refuted (divides r (leads r ++ replicate m false)) (λ d. false≢true (sym (not_zeros r k) ∙ ap zeros (back_all (poly r) h e m (leads r) full (left-none r (none m) d)) ∙ zeros-none (length (poly r))))

  -- what 01's rule let pass, the check catches: the two differ by what is left of the ones
  pub old_caught : (f : List Bool) → divides r f ≡ true → divides r (leads r ++ f) ≡ false
  unfolding none
  old_caught f d =
      let l : List Bool = leads r in
      let same : length (l ++ f) ≡ length (none r ++ f) = simp (length-append, length-leads, length_none) in
      let sum : (l ++ f) ⊞ (none r ++ f) ≡ l ++ none (length f) = append_⊞ l f (none r) f (length-leads r ∙ sym (length_none r)) ∙ ap₂ {C = List Bool} ◌++◌ (⊞-none l r (length-leads r)) (⊞-self f) in
      refuted (divides r (l ++ f)) (λ x. false≢true (sym (stuck_caught (length f)) ∙ ap (divides r) (sym sum) ∙ divides-⊞ r (l ++ f) (none r ++ f) same x (zeros_unseen r r f ∙ d)))

  pub run_caught : (t : ℕ) (f : List Bool) → 1 ≤ t → t ≤ longest_run r → divides r (leads r ++ f) ≡ true → divides r (leads r ++ (replicate t false ++ f)) ≡ false
  unfolding none
  run_caught zero f h l d = absurd (omega arith)
  run_caught (suc t) f h l d =
      let (q, e) = term r k in
      refuted (divides r (leads r ++ (replicate (suc t) false ++ f)))
      (λ x. away_at (poly r) (leads r) (leads r) (longest_run r) t (runs r k) (omega arith)
      (comes_back (poly r) q e (leads r) f (suc t) full (left-none r f d) (left-none r (none (suc t) ++ f) x)))

-- D to the 63 is 1 modulo the polynomial: the register is back where it was
once : rest (poly 6) (leads 6) (replicate 63 false) ≡ leads 6
unfolding poly leads
once = refl

pub run_unseen : (f : List Bool) → divides 6 (leads 6 ++ (replicate 63 false ++ f)) ≡ divides 6 (leads 6 ++ f)
run_unseen f = ap zeros (starts_from 6 (replicate 63 false ++ f) ∙ rest_append (poly 6) (leads 6) (replicate 63 false) f ∙ ap (λ (s : List Bool). rest (poly 6) s f) once ∙ sym (starts_from 6 f))

-- ---- a word of zeros

zeros-free : (ks : List Rule) (u : List Bool) → zeros u ≡ true → zeros (free_bits ks u) ≡ true
zeros-free [] u h = refl
zeros-free (k ∷ ks) [] h = refl
zeros-free (k ∷ ks) (true ∷ u) h = absurd (false≢true h)
zeros-free (free ∷ ks) (false ∷ u) h = zeros-free ks u h
zeros-free (frozen c m ∷ ks) (false ∷ u) h = zeros-free ks u h

zero_bits : (m : ℕ) → replicate m 0 ≡ map bit (none m)
unfolding none
zero_bits zero = refl
zero_bits (suc m) = ap {B = List ℕ} (λ t. 0 ∷ t) (zero_bits m)

module _ (n : ℕ) (ks : List Rule) (r : ℕ) (k : Check r) where
  stuck_kept : keeps ks r (polar n (none (2 ^ n))) ≡ false
  unfolding keeps none
  stuck_kept =
      let u : List Bool = polar n (none (2 ^ n)) in
      let f : List Bool = free_bits ks u in
      let z : f ≡ none (length f) = is_none f (zeros-free ks u (ap zeros (polar-none n) ∙ zeros-none (2 ^ n))) in
      ap (λ (t : List Bool). keeps_rules ks u u && divides r (leads r ++ t)) z ∙ and-false (keeps_rules ks u u) _ (stuck_caught r k (length f))

  pub stuck_alone : candidates n ks r (replicate (2 ^ n) 0) ≡ []
  stuck_alone =
      ap (candidates n ks r) (zero_bits (2 ^ n)) ∙ whole n ks r (none (2 ^ n)) (length_none (2 ^ n)) ∙ ap (λ (t : Bool). keep t (none (2 ^ n)) []) stuck_kept

module _ (n : ℕ) (s : List ℕ) (r : ℕ) (out : List ℕ) (k : Check r) where
  abbrev stuck : List ℕ
  stuck = replicate (2 ^ n) 0

  pub stuck_decoded : (c : ℕ) → refuses (form_refusals n s r c stuck (length out)) ≡ false → decoding n s r c stuck out ≡ leaving out (Inconsistent 0 (equations n (rules n s) r stuck))
  unfolding verdict
  stuck_decoded c ok =
      let g : unknowns n (rules n s) stuck ≡ 0 = ap (unknowns n (rules n s)) (zero_bits (2 ^ n)) ∙ nothing-lost n (rules n s) (none (2 ^ n)) (length_none (2 ^ n)) in
      under n s r c stuck out ok (omega arith) ∙ ap₂ (λ (g : ℕ) (cs : List (List Bool)). verdict n g (equations n (rules n s) r stuck) cs out) g (stuck_alone n (rules n s) r k)

  pub stuck_read : refuses (read_refusals n s r stuck (length out)) ≡ false → reading_back n s r stuck out ≡ leaving out (Inconsistent 0 0)
  stuck_read ok =
      let word : map is_one stuck ≡ none (2 ^ n) = ap (map is_one) (zero_bits (2 ^ n)) ∙ ones_back (none (2 ^ n)) in
      let no : keeps (rules n s) r (polar n (map is_one stuck)) ≡ false = ap (λ (x : List Bool). keeps (rules n s) r (polar n x)) word ∙ stuck_kept n (rules n s) r k in
      read_is n s r stuck out ok ∙ ap (λ (t : Bool). pick t (writing (map bit (payload_of n (rules n s) r (map is_one stuck))) out Done) (leaving out (Inconsistent 0 0))) no
