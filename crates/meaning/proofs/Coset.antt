-- Demand 3, over the candidates: where symbols are erased decides how many codewords agree and which places are settled, if any codeword agrees at all.
--     same_number, same-settled     for two words erased in the same places
use mathlib.Core.Path.{◌≡◌, refl, sym, ap, ◌∙◌}
use Prim.Native.Nat.{ℕ, ◌^◌}
use native.Mathlib.Omega.{arith}
use mathlib.Core.Logic.{◌↔◌}
use mathlib.Core.Bool.{Bool, true, false, not, false≢true}
use mathlib.Core.List.{List, map, Memᴰ}
use lib.ListN.{length, get_or}
use Rattle.bits.specs.Vectors.{◌⊕◌, ◌⊞◌, all}
use Rattle.bits.proofs.Rising.{count_bits, count-shift}
use Rattle.bits.proofs.Tests.{and_l, and_r, and_i, bool_ext, not-all, all_mem}
use Rattle.bits.proofs.Xor.{not-not, ⊞-assoc, ⊞-comm, ⊞-cancel, length-⊞, get_or-⊞}
use Rattle.meaning.specs.Check.{keeps}
use Rattle.meaning.specs.Codewords.{erased, candidates}
use Rattle.meaning.specs.Sheet.{Rule}
use Rattle.meaning.specs.Strips.{settled_at, common}
use Rattle.meaning.specs.Transform.{polar}
use Rattle.meaning.proofs.Affine.{keeps-three, agrees-clear, clear-agrees}
use Rattle.meaning.proofs.Candidates.{passes, length-candidates, candidate, is_candidate}
use Rattle.meaning.proofs.Polar.{polar-⊞, length-polar}

module _ (n : ℕ) (ks : List Rule) (r : ℕ) where
  -- u and a pass for w, b for w': u + (a + b) passes for w'
  pub moves : (w w' : List ℕ) → map erased w ≡ map erased w' → (u a b : List Bool) → length u ≡ 2 ^ n → length a ≡ 2 ^ n → length b ≡ 2 ^ n
      → passes n ks r w u ≡ true → passes n ks r w a ≡ true → passes n ks r w' b ≡ true → passes n ks r w' (u ⊞ (a ⊞ b)) ≡ true
  unfolding passes
  moves w w' e u a b lu la lb p q s =
      let lab : length (a ⊞ b) ≡ 2 ^ n = length-⊞ a b (la ∙ sym lb) ∙ la in
      let lxa = length-⊞ (polar n u) (polar n a) (length-polar n u lu ∙ sym (length-polar n a la)) ∙ length-polar n u lu in
      let x : polar n (u ⊞ (a ⊞ b)) ≡ polar n u ⊞ polar n a ⊞ polar n b =
      polar-⊞ n u (a ⊞ b) lu lab ∙ ap (λ (t : List Bool). polar n u ⊞ t) (polar-⊞ n a b la lb) ∙ sym (⊞-assoc (polar n u) (polar n a) (polar n b)) in
      and_i _ _
      (keeps-three u a b (lu ∙ sym la) (la ∙ sym lb) ks r (and_l _ _ p) (and_l _ _ q) (and_l _ _ s))
      (rw x (clear-agrees w' (polar n u ⊞ polar n a) (polar n b) (lxa ∙ sym (length-polar n b lb))
      (rw e at (agrees-clear w (polar n u) (polar n a) (and_r (keeps ks r u) _ p) (and_r (keeps ks r a) _ q))) (and_r (keeps ks r b) _ s)))

  pub same_number : (w w' : List ℕ) → map erased w ≡ map erased w' → (x y : List Bool) → Memᴰ x (candidates n ks r w) → Memᴰ y (candidates n ks r w')
      → length (candidates n ks r w) ≡ length (candidates n ks r w')
  same_number w w' e x y mx my =
      let (a, la, pa, ea) = candidate n ks r w x mx in
      let (b, lb, pb, eb) = candidate n ks r w' y my in
      let ld : length (a ⊞ b) ≡ 2 ^ n = length-⊞ a b (la ∙ sym lb) ∙ la in
      let back : (u : List Bool) → length u ≡ 2 ^ n → u ⊞ (a ⊞ b) ⊞ (b ⊞ a) ≡ u = λ u lu. ap (λ (t : List Bool). u ⊞ (a ⊞ b) ⊞ t) (⊞-comm b a) ∙ ⊞-cancel u (a ⊞ b) (lu ∙ sym ld) in
      rw (length-candidates, length-candidates)
      (count_bits (passes n ks r w) (λ (u : List Bool). passes n ks r w' (u ⊞ (a ⊞ b))) (2 ^ n)
      (λ u lu. bool_ext _ _ (λ p. moves w w' e u a b lu la lb p pa pb)
      (λ p. rw (back u lu) at (moves w' w (sym e) (u ⊞ (a ⊞ b)) b a (length-⊞ u (a ⊞ b) (lu ∙ sym ld) ∙ lu) lb la p pb pa)))
      ∙ count-shift (passes n ks r w') (2 ^ n) (a ⊞ b) ld)

-- ---- settled places

not-⊕ : (a : Bool) → not a ⊕ a ≡ true
not-⊕ true = refl
not-⊕ false = refl

-- place j is not settled in a list where one has 1 there and one has 0
both_values : (cs : List (List Bool)) (j : ℕ) → settled_at cs j ≡ 2
    → (x : List Bool) × (y : List Bool) × Memᴰ x cs × Memᴰ y cs × (get_or x j false ≡ true) × (get_or y j false ≡ false)
both_values cs j h = go (all (λ (x : List Bool). get_or x j false) cs) (all (λ (x : List Bool). not (get_or x j false)) cs) refl refl h
  where
    go : (a b : Bool) → all (λ (x : List Bool). get_or x j false) cs ≡ a → all (λ (x : List Bool). not (get_or x j false)) cs ≡ b → common a b ≡ 2
        → (x : List Bool) × (y : List Bool) × Memᴰ x cs × Memᴰ y cs × (get_or x j false ≡ true) × (get_or y j false ≡ false)
    go true b p q k = absurd (omega arith)
    go false true p q k = absurd (omega arith)
    go false false p q k =
        let s = not-all (λ (x : List Bool). get_or x j false) cs p in
        let t = not-all (λ (x : List Bool). not (get_or x j false)) cs q in
        (t.0, s.0, t.1, s.1, sym (not-not (get_or t.0 j false)) ∙ ap not t.2, s.2)

pub values_both : (cs : List (List Bool)) (j : ℕ) (x y : List Bool) → Memᴰ x cs → Memᴰ y cs → get_or x j false ⊕ get_or y j false ≡ true → settled_at cs j ≡ 2
values_both cs j x y mx my d = go (all (λ (x : List Bool). get_or x j false) cs) (all (λ (x : List Bool). not (get_or x j false)) cs) refl refl
  where
    off : (v : List Bool) → not (get_or v j false) ≡ true → get_or v j false ≡ false
    off v e = sym (not-not (get_or v j false)) ∙ ap not e

    go : (a b : Bool) → all (λ (x : List Bool). get_or x j false) cs ≡ a → all (λ (x : List Bool). not (get_or x j false)) cs ≡ b → common a b ≡ 2
    go true b p q =
        absurd (false≢true (rw (all_mem (λ (x : List Bool). get_or x j false) mx p, all_mem (λ (x : List Bool). get_or x j false) my p) at d))
    go false true p q =
        absurd (false≢true (rw (off x (all_mem (λ (x : List Bool). not (get_or x j false)) mx q), off y (all_mem (λ (x : List Bool). not (get_or x j false)) my q)) at d))
    go false false p q = refl

module _ (n : ℕ) (ks : List Rule) (r : ℕ) (w w' : List ℕ) (e : map erased w ≡ map erased w') (c c' : List Bool) (m : Memᴰ c (candidates n ks r w)) (m' : Memᴰ c' (candidates n ks r w')) where
  -- a place that is not settled for w is not settled for w'
  pub unsettled : (j : ℕ) → settled_at (candidates n ks r w) j ≡ 2 → settled_at (candidates n ks r w') j ≡ 2
  unsettled j h =
      let (x, y, mx, my, ex, ey) = both_values (candidates n ks r w) j h in
      let (a, la, pa, ea) = candidate n ks r w c m in
      let (b, lb, pb, eb) = candidate n ks r w' c' m' in
      let (u, lu, pu, eu) = candidate n ks r w x mx in
      let (v, lv, pv, ev) = candidate n ks r w y my in
      let d : List Bool = a ⊞ b in
      let ld : length d ≡ 2 ^ n = length-⊞ a b (la ∙ sym lb) ∙ la in
      let at : (t z : List Bool) → length t ≡ 2 ^ n → polar n t ≡ z → get_or (polar n (t ⊞ d)) j false ≡ get_or z j false ⊕ get_or (polar n d) j false =
      λ t z lt et. rw (polar-⊞ n t d lt ld, ← et) (get_or-⊞ (polar n t) (polar n d) j (length-polar n t lt ∙ sym (length-polar n d ld))) in
      values_both (candidates n ks r w') j (polar n (u ⊞ d)) (polar n (v ⊞ d))
      (is_candidate n ks r w' (u ⊞ d) (length-⊞ u d (lu ∙ sym ld) ∙ lu) (moves n ks r w w' e u a b lu la lb pu pa pb))
      (is_candidate n ks r w' (v ⊞ d) (length-⊞ v d (lv ∙ sym ld) ∙ lv) (moves n ks r w w' e v a b lv la lb pv pa pb))
      (rw (at u x lu eu, at v y lv ev, ex, ey) (not-⊕ (get_or (polar n d) j false)))

pub same-settled : (n : ℕ) (ks : List Rule) (r : ℕ) (w w' : List ℕ) → map erased w ≡ map erased w' → (c c' : List Bool) → Memᴰ c (candidates n ks r w) → Memᴰ c' (candidates n ks r w')
    → (j : ℕ) → (settled_at (candidates n ks r w) j ≡ 2) ↔ (settled_at (candidates n ks r w') j ≡ 2)
same-settled n ks r w w' e c c' m m' j = (unsettled n ks r w w' e c c' m m' j, unsettled n ks r w' w (sym e) c' c m' m j)
