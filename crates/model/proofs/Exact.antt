-- The decoder is exact. From the vectors behind the agreeing codewords to the bits of the unknowns at which all equations are 0, u ↦ its bits at the open free
-- positions goes one to one and keeps the order both ways; the model is the way back. So the candidates are the model's codewords at these bits.
--     chosen                   the bits of u at the open free positions
--     u_at-length, polar-u_at    the model's u has N bits, and its transform is the model's x
--     chosen-u_at, u_at-chosen   the two ways undo each other
--     u_at-before               the order, both ways
--     passes_solves            the model's u is behind an agreeing codeword just where all equations are 0
--     exact                    the candidates are the model's codewords at the solutions, in the same order
use mathlib.Core.Path.{◌≡◌, refl, sym, ap, ap₂, ◌∙◌}
use Prim.Native.Nat.{ℕ, suc, ◌+◌, ◌^◌, ◌<◌}
use native.Mathlib.Omega.{arith}
use native.Mathlib.Nat.{zero-add}
use mathlib.Core.Bool.{Bool, true, false, ◌&&◌, not, true≢false, and-true}
use mathlib.Core.List.{List, [], ◌∷◌, ◌++◌, map}
use lib.ListN.{length, get_or, drop, replicate, length-append}
use Rattle.bits.specs.Vectors.{◌⊕◌, all_bits, filter, tab, zeros, before, odd}
use Rattle.bits.proofs.Tests.{and_l, and_r, and_i, tab-get_or, tab-at, length-tab}
use Rattle.bits.proofs.Xor.{⊕-self, eq_⊕, zeros_append}
use Rattle.meaning.specs.Check.{free_bits, rest, poly, keeps_rules, keeps}
use Rattle.meaning.specs.Codewords.{agrees, erased, candidates}
use Rattle.meaning.specs.Open.{open_free, is_open, open_all, unknowns}
use Rattle.meaning.specs.Limits.{leads}
use Rattle.meaning.specs.Sheet.{Rule, free, frozen, early}
use Rattle.meaning.specs.Transform.{polar}
use Rattle.meaning.proofs.Candidates.{passes, candidates-filter}
use Rattle.meaning.proofs.Gap.{odd-early, parts_open, length-open_free}
use Rattle.meaning.proofs.Size.{Parts}
use Rattle.model.specs.AtBits.{assign, u_at, x_at, solves}
use Rattle.model.specs.Decoded.{picked, kept_open, residuals}
use Rattle.model.proofs.Decoded.{decoded}
use Rattle.model.proofs.Listed.{listed, length-picked, picked-before, picked_same}
use Rattle.model.proofs.Walked.{rules-split}

-- ---- two vectors that agree with a word and keep the rules where they are open first part at an open free position

-- U and W are equal up to place j, where they hold a and b; ks are the rules from i on
module _ (U W : List Bool) (j : ℕ) (agree : (m : List Bool) → zeros (drop j m) ≡ true → odd m U ≡ odd m W) (a b : Bool) (u v : List Bool) (ab : a ⊕ b ≡ true) where
  free-parts : (i : ℕ) (ks : List Rule) (o c : List Bool) → i + length c ≡ j → early i ks ≡ true → kept_open ks o U (c ++ a ∷ u) ≡ true → kept_open ks o W (c ++ b ∷ v) ≡ true
      → length c < length ks → get_or o (length c) false ≡ true → get_or (open_free ks o) (length c) false ≡ true
  free-parts i [] o c e h p q l g = absurd (omega arith)
  free-parts i (k ∷ ks) [] c e h p q l g = g
  free-parts i (free ∷ ks) (x ∷ o) [] e h p q l g = g
  free-parts i (frozen s m ∷ ks) (false ∷ o) [] e h p q l g = g
  free-parts i (frozen s m ∷ ks) (true ∷ o) [] e h p q l g =
      let ea : a ≡ s ⊕ odd m U = eq_⊕ a (s ⊕ odd m U) (and_l _ (kept_open ks o U u) p) in
      let eb : b ≡ s ⊕ odd m W = eq_⊕ b (s ⊕ odd m W) (and_l _ (kept_open ks o W v) q) in
      let ei : i ≡ j = omega arith in
      let em : odd m U ≡ odd m W = agree m (rw (← ei) (and_l (zeros (drop i m)) _ h)) in
      absurd (true≢false (sym ab ∙ ap₂ ◌⊕◌ ea (eb ∙ ap (λ (t : Bool). s ⊕ t) (sym em)) ∙ ⊕-self (s ⊕ odd m U)))
  free-parts i (free ∷ ks) (x ∷ o) (y ∷ c) e h p q l g = free-parts (suc i) ks o c (omega arith) h p q (omega arith) g
  free-parts i (frozen s m ∷ ks) (true ∷ o) (y ∷ c) e h p q l g =
      free-parts (suc i) ks o c (omega arith) (and_r (zeros (drop i m)) _ h) (and_r (not (y ⊕ (s ⊕ odd m U))) _ p) (and_r (not (y ⊕ (s ⊕ odd m W))) _ q) (omega arith) g
  free-parts i (frozen s m ∷ ks) (false ∷ o) (y ∷ c) e h p q l g = free-parts (suc i) ks o c (omega arith) (and_r (zeros (drop i m)) _ h) p q (omega arith) g

-- the codeword agrees with the word, and the open frozen positions keep their rules
unfoldable pub fitting : ℕ → List Rule → List ℕ → List Bool → Bool
fitting n ks w u = agrees w (polar n u) && kept_open ks (open_all n w) u u

-- the bits at the open free positions
unfoldable pub chosen : ℕ → List Rule → List ℕ → List Bool → List Bool
chosen n ks w u = picked (open_free ks (open_all n w)) u

length_open : (n : ℕ) (w : List ℕ) → length (open_all n w) ≡ 2 ^ n
unfolding open_all
length_open n w = length-tab (2 ^ n) (is_open n (map erased w))

fitting-parts : (n : ℕ) (ks : List Rule) (w : List ℕ) → length ks ≡ 2 ^ n → early 0 ks ≡ true → Parts (fitting n ks w) (open_free ks (open_all n w))
unfolding open_all fitting
fitting-parts n ks w lk ok c u v a b l k p q ab =
    let lf = length-open_free ks (open_all n w) (lk ∙ sym (length_open n w)) ∙ length_open n w in
    let lc : length c < 2 ^ n = omega (arith, simp length-append at (l ∙ lf)) in
    free-parts (c ++ a ∷ u) (c ++ b ∷ v) (length c) (λ m z. odd-early m c (a ∷ u) (b ∷ v) z) a b u v ab 0 ks (open_all n w) c (zero-add (length c)) ok
    (and_r (agrees w (polar n (c ++ a ∷ u))) _ p) (and_r (agrees w (polar n (c ++ b ∷ v))) _ q) (omega arith)
    (tab-at (2 ^ n) (is_open n (map erased w)) (length c) false lc
    ∙ parts_open n w c u v a b (l ∙ lf) k (and_l _ (kept_open ks (open_all n w) (c ++ a ∷ u) (c ++ a ∷ u)) p) (and_l _ (kept_open ks (open_all n w) (c ++ b ∷ v) (c ++ b ∷ v)) q) ab)

-- ---- the model at a list t of bits for the unknowns

module _ (rule : ℕ → Rule) (n : ℕ) (w : List ℕ) (lw : length w ≡ 2 ^ n) (ok : early 0 (tab (2 ^ n) rule) ≡ true) where
  abbrev ks : List Rule
  ks = tab (2 ^ n) rule

  lk : length ks ≡ 2 ^ n
  lk = length-tab (2 ^ n) rule

  lf : length (open_free ks (open_all n w)) ≡ 2 ^ n
  lf = length-open_free ks (open_all n w) (lk ∙ sym (length_open n w)) ∙ length_open n w

  pub u_at-length : (t : List Bool) → length (u_at rule n w t) ≡ 2 ^ n
  unfolding u_at
  u_at-length t = (decoded rule n w lw ok (assign t) 0).size

  pub polar-u_at : (t : List Bool) → polar n (u_at rule n w t) ≡ x_at rule n w t
  unfolding u_at x_at
  polar-u_at t = (decoded rule n w lw ok (assign t) 0).block

  u_at-fits : (t : List Bool) → fitting n ks w (u_at rule n w t) ≡ true
  unfolding u_at fitting
  u_at-fits t = let d = decoded rule n w lw ok (assign t) 0 in and_i _ _ (ap (agrees w) d.block ∙ d.agree) d.kept

  -- its open free positions hold t
  pub chosen-u_at : (t : List Bool) → length t ≡ unknowns n ks w → chosen n ks w (u_at rule n w t) ≡ t
  unfolding u_at chosen
  chosen-u_at t lt = (decoded rule n w lw ok (assign t) 0).given ∙ ap (λ (m : ℕ). tab m (assign t)) (sym lt) ∙ tab-get_or t false (assign t) (λ i h. refl)

  pub chosen-length : (u : List Bool) → length u ≡ 2 ^ n → length (chosen n ks w u) ≡ unknowns n ks w
  unfolding chosen unknowns
  chosen-length u lu = length-picked (open_free ks (open_all n w)) u (lf ∙ sym lu)

  -- a fitting vector is the model's at its own bits
  pub u_at-chosen : (u : List Bool) → length u ≡ 2 ^ n → fitting n ks w u ≡ true → u_at rule n w (chosen n ks w u) ≡ u
  unfolding chosen
  u_at-chosen u lu f =
      let t = chosen n ks w u in
      picked_same (open_free ks (open_all n w)) (fitting n ks w) (fitting-parts n ks w lk ok) (u_at rule n w t) u (u_at-length t ∙ sym lf) (lu ∙ sym lf) (u_at-fits t) f
      (chosen-u_at t (chosen-length u lu))

  -- the order, both ways
  pub u_at-before : (s t : List Bool) → length s ≡ unknowns n ks w → length t ≡ unknowns n ks w → before (u_at rule n w s) (u_at rule n w t) ≡ before s t
  unfolding chosen
  u_at-before s t ls lt =
      sym (picked-before (open_free ks (open_all n w)) (fitting n ks w) (fitting-parts n ks w lk ok) (u_at rule n w s) (u_at rule n w t)
      (u_at-length s ∙ sym lf) (u_at-length t ∙ sym lf) (u_at-fits s) (u_at-fits t))
      ∙ ap₂ before (chosen-u_at s ls) (chosen-u_at t lt)

  -- ---- the equations, with a check of length r

  module _ (r : ℕ) where
    -- the model's u is behind an agreeing codeword just where all equations are 0
    pub passes_solves : (t : List Bool) → passes n ks r w (u_at rule n w t) ≡ solves rule n r w t
    unfolding passes keeps u_at solves
    passes_solves t =
        let d = decoded rule n w lw ok (assign t) r in
        let u = u_at rule n w t in
        let o = open_all n w in
        let c = rest (poly r) (replicate r false) (leads r ++ free_bits ks u) in
        rw (d.block, d.agree, rules-split ks o u u (lk ∙ sym (length_open n w)), d.kept, d.left, zeros_append (residuals ks o u u) c)
        (and-true (zeros (residuals ks o u u) && zeros c))

    pub passes_fits : (u : List Bool) → passes n ks r w u ≡ true → fitting n ks w u ≡ true
    unfolding passes keeps fitting
    passes_fits u p =
        let k : keeps_rules ks u u ≡ true = and_l (keeps_rules ks u u) _ (and_l (keeps ks r u) _ p) in
        and_i _ _ (and_r (keeps ks r u) _ p) (and_l _ (zeros (residuals ks (open_all n w) u u)) (sym (rules-split ks (open_all n w) u u (lk ∙ sym (length_open n w))) ∙ k))

    pub chosen-solves : (u : List Bool) → length u ≡ 2 ^ n → passes n ks r w u ≡ true → solves rule n r w (chosen n ks w u) ≡ true
    chosen-solves u lu p = sym (passes_solves (chosen n ks w u)) ∙ ap (passes n ks r w) (u_at-chosen u lu (passes_fits u p)) ∙ p

    -- the vectors behind the agreeing codewords, in order, are the model's at the solutions, in order
    pub passing : filter (passes n ks r w) (all_bits (2 ^ n)) ≡ map (u_at rule n w) (filter (solves rule n r w) (all_bits (unknowns n ks w)))
    passing =
        listed (2 ^ n) (unknowns n ks w) (passes n ks r w) (solves rule n r w) (u_at rule n w) (chosen n ks w)
        (λ t lt q. (u_at-length t, passes_solves t ∙ q))
        (λ u lu p. (chosen-length u lu, chosen-solves u lu p, u_at-chosen u lu (passes_fits u p)))
        (λ s t ls lt h. u_at-before s t ls lt ∙ h)

    pub exact : candidates n (tab (2 ^ n) rule) r w ≡ map (x_at rule n w) (filter (solves rule n r w) (all_bits (unknowns n (tab (2 ^ n) rule) w)))
    exact = candidates-filter n ks r w ∙ ap (map (polar n)) passing ∙ words (filter (solves rule n r w) (all_bits (unknowns n ks w)))
      where
        words : (l : List (List Bool)) → map (polar n) (map (u_at rule n w) l) ≡ map (x_at rule n w) l
        words [] = refl
        words (t ∷ l) = ap₂ {C = List (List Bool)} ◌∷◌ (polar-u_at t) (words l)
