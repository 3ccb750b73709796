-- When every place is settled.
--     settled_le        a settled value is 0, 1 or 2
--     unique_settled    one codeword agrees exactly when every place is settled, where any does
use mathlib.Core.Path.{◌≡◌, refl, sym, ap, ◌∙◌}
use mathlib.Core.Logic.{◌⊎◌, inl, inr, ◌↔◌, ⊎_elim}
use Prim.Native.Nat.{ℕ, suc, ◌^◌, ◌≤◌, ◌<◌}
use native.Mathlib.Omega.{arith}
use native.Mathlib.Nat.{suc_inj}
use mathlib.Core.Bool.{Bool, true, false, not, ◌&&◌, true≢false}
use mathlib.Core.List.Memᴰ
use mathlib.Core.List.{List, [], ◌∷◌}
use lib.ListN.{length, get_or}
use Rattle.bits.specs.Vectors.{all, before, Rises}
use Rattle.bits.proofs.Rising.{before_irr}
use Rattle.meaning.specs.Sheet.{Rule}
use Rattle.meaning.specs.Transform.{polar}
use Rattle.meaning.specs.Codewords.{candidates}
use Rattle.meaning.specs.Strips.{common, settled_at}
use Rattle.meaning.proofs.Candidates.{Earlier, candidates_rise, candidate_iff}

common_le : (a b : Bool) → common a b ≤ 2
common_le true b = omega arith
common_le false true = omega arith
common_le false false = omega arith

pub settled_le : (cs : List (List Bool)) (j : ℕ) → settled_at cs j ≤ 2
settled_le cs j = common_le (all (λ (x : List Bool). get_or x j false) cs) (all (λ (x : List Bool). not (get_or x j false)) cs)

-- two vectors of one length are equal, or differ at a place
differ : (x y : List Bool) → length x ≡ length y → (x ≡ y) ⊎ ((j : ℕ) × (j < length x) × (get_or x j false ≡ not (get_or y j false)))
differ [] [] l = inl refl
differ [] (b ∷ y) l = absurd (omega arith)
differ (a ∷ x) [] l = absurd (omega arith)
differ (a ∷ x) (b ∷ y) l = go a b (differ x y (suc_inj l))
  where
    go : (a b : Bool) → (x ≡ y) ⊎ ((j : ℕ) × (j < length x) × (get_or x j false ≡ not (get_or y j false))) → (a ∷ x ≡ b ∷ y) ⊎ ((j : ℕ) × (j < suc (length x)) × (get_or (a ∷ x) j false ≡ not (get_or (b ∷ y) j false)))
    go a b (inr (j, h, e)) = inr (suc j, omega arith, e)
    go true true (inl e) = inl (ap {B = List Bool} (λ t. true ∷ t) e)
    go false false (inl e) = inl (ap {B = List Bool} (λ t. false ∷ t) e)
    go true false (inl e) = inr (0, omega arith, refl)
    go false true (inl e) = inr (0, omega arith, refl)

-- where the first two differ, nothing is settled
parted : (a b : Bool) (p q : Bool) → a ≡ not b → common (a && (b && p)) (not a && (not b && q)) ≡ 2
parted true false p q e = refl
parted false true p q e = refl
parted true true p q e = absurd (true≢false e)
parted false false p q e = absurd (true≢false (sym e))

module _ (n : ℕ) (ks : List Rule) (r : ℕ) (w : List ℕ) where
  alone : (x : List Bool) (j : ℕ) → settled_at (x ∷ []) j ≡ 2 → ⊥
  alone x j = go (get_or x j false)
    where
      go : (b : Bool) → common (b && true) (not b && true) ≡ 2 → ⊥
      go true e = omega arith
      go false e = omega arith

  abbrev cs : List (List Bool)
  cs = candidates n ks r w

  several : (l : List (List Bool)) → cs ≡ l → 0 < length l → ((j : ℕ) → j < 2 ^ n → settled_at l j ≡ 2 → ⊥) → length l ≡ 1
  several [] e h k = absurd (omega arith)
  several (x ∷ []) e h k = refl
  several (x ∷ y ∷ l) e h k =
      let lx : length x ≡ 2 ^ n = ((candidate_iff n ks r w x).0 (rw e (Memᴰ.head refl))).0.0 in
      let ly : length y ≡ 2 ^ n = ((candidate_iff n ks r w y).0 (rw e (Memᴰ.tail (Memᴰ.head refl)))).0.0 in
      let r : Rises (Earlier n) (x ∷ y ∷ l) = rw e at (candidates_rise n ks r w) in
      ⊎_elim
      (λ (q : x ≡ y). absurd (before_irr (polar n y) (ap (λ (z : List Bool). before (polar n z) (polar n y)) (sym q) ∙ r.0.0)))
      (λ (j, p, q). absurd (k j (omega arith) (parted (get_or x j false) (get_or y j false) _ _ q)))
      (differ x y (lx ∙ sym ly))

  pub unique_settled : 0 < length cs → (length cs ≡ 1) ↔ ((j : ℕ) → j < 2 ^ n → settled_at cs j ≡ 2 → ⊥)
  unique_settled h = (λ e j p. one cs e j, several cs refl h)
    where
      one : (l : List (List Bool)) → length l ≡ 1 → (j : ℕ) → settled_at l j ≡ 2 → ⊥
      one [] e j = absurd (omega arith)
      one (x ∷ []) e j = alone x j
      one (x ∷ y ∷ l) e j = absurd (omega arith)
