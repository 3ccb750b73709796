-- Law 3: the solutions of a system, read off its reduced equations. κ is any constant of a row that takes XOR to XOR.
-- g is the number of unknowns: no given equation has a coefficient at or above it. `after`, `rest` are the rows that elimination leaves.
--     after-length, rest-length, length-completed     as many rows after as before; a completion is as long as what it completes
--     solves-same, rest_values     law 1 at an assignment: the same solutions, and rows of the rest keep their values
--     after-within, rest-within    no coefficient at or above g comes up
--     solvable                     there is a solution just where no equation with no coefficient has the constant 1
--     solution_consistent, completed-solves, completed-free     the free unknowns at will
--     solution_completed, solution_unique     and every solution is so, from its free unknowns
--     pivot_value, pivot_free, pivot_follows     each pivot is a function of the free unknowns before it
--     rank_le, solution_count      the rank is at most g, and there are 2 to the (g - rank) solutions, or none
--     first_solution, last_solution     all free unknowns 0, and 1
--     settled, unsettled, rest-by-free, first-value     the rows of the rest: fixed just where they have no coefficient
use mathlib.Core.Path.{◌≡◌, refl, sym, ap, ◌∙◌}
use Prim.Native.Nat.{ℕ, suc, ◌*◌, ◌-◌, ◌^◌, ◌≤◌, ◌<◌}
use native.Mathlib.Omega.{arith}
use native.Mathlib.Nat.{zero-add}
use mathlib.Core.Bool.{Bool, true, false, not}
use mathlib.Core.Option.{Option, none, some}
use mathlib.Core.List.{List, []}
use lib.ListN.{length, get_or, take, replicate, length-replicate, length-set}
use lib.Seq.{length-take-le, get_or-take}
use Rattle.bits.specs.Vectors.{◌⊕◌, pick, any, count, all_bits, before}
use Rattle.bits.proofs.Xor.{eq_⊕}
use Rattle.bits.proofs.Tests.{bool_ext, not-both, count_ext}
use Rattle.bits.proofs.Rising.{any-bits, bits-any}
use Rattle.bits.specs.Rows.{Row, has, at}
use Rattle.gf2.specs.Solve.{lead, solve}
use Rattle.gf2.specs.System.{Within, Hom, Distinct, dot, value, solves, consistent, owner, completed, unit}
use Rattle.gf2.proofs.Leads.{lead-holds, lead-⊻_le}
use Rattle.gf2.proofs.Passes.{solve_sized, span}
use Rattle.gf2.proofs.Linear.{same_solutions, rest-same_values, vanishes-at}
use Rattle.gf2.proofs.Reduced.{reduced, distinct, rank-counts}
use Rattle.gf2.proofs.Sums.{value_hom, dot_ext, dot-no-lead, dot-zeros, dot-unit}
use Rattle.gf2.proofs.Fill.{dot-fill, owner-some, value-lead, length-fill, fill-free, is-consistent, is-solved, is-completed, is_unique, is-first, is_last, count-led_le, is-counted}

module _ (c : ℕ) (e r : List Row) where
  abbrev pub after : List Row
  after = (solve c e r).eqs

  abbrev pub rest : List Row
  rest = (solve c e r).rest

  -- as many rows after as before
  pub after-length : length after ≡ length e
  after-length = (solve_sized c e r).0

  pub rest-length : length rest ≡ length r
  rest-length = (solve_sized c e r).1

  pub length-completed : (κ : Row → Bool) (z : List Bool) → length (completed c κ after z) ≡ length z
  length-completed κ z = length-fill c κ after [] z

  after_distinct : Distinct c after
  after_distinct = distinct c after rest (reduced c e r)

  pub after-within : (g : ℕ) → Within c g e → Within c g after
  after-within g B = (span c e r (λ x. lead c x ≤ g) (lead-⊻_le c g) (λ j x. Unit {0}) (λ j x y p q. tt) B (λ j l. tt)).0

  pub rest-within : (g : ℕ) → Within c g e → Within c g r → (j : ℕ) → j < length r → lead c (at rest j) ≤ g
  rest-within g B C = (span c e r (λ x. lead c x ≤ g) (lead-⊻_le c g) (λ j x. lead c x ≤ g) (λ j x y p q. lead-⊻_le c g x y p q) B C).1

  -- the other unknowns of an equation with the pivot b are free
  pub pivot_free : (k b t : ℕ) → k < length after → lead c (at after k) ≡ suc b → has t (at after k) ≡ true → (t ≡ b → ⊥) → owner c after t ≡ none
  pivot_free k b t l q h n = go (owner c after t) refl
    where
      go : (o : Option Row) → owner c after t ≡ o → owner c after t ≡ none
      go none m = m
      go (some y) m =
          let (j, d, a, u) = owner-some c after t y m in
          let v : lead c (at after j) ≡ suc t = ap (lead c) a ∙ u in
          absurd (not-both h ((reduced c e r).others j t d v k l (λ (w : k ≡ j). n (let s : suc t ≡ suc b = sym v ∙ ap (λ (i : ℕ). lead c (at after i)) (sym w) ∙ q in omega arith))))

  module _ (κ : Row → Bool) (hom : Hom κ) where
    pub solves-same : (z : List Bool) → solves κ e z ≡ solves κ after z
    solves-same z = same_solutions c e r (value κ z) (value_hom κ hom z)

    pub rest_values : (z : List Bool) → solves κ e z ≡ true → (j : ℕ) → j < length r → value κ z (at rest j) ≡ value κ z (at r j)
    rest_values z = rest-same_values c e r (value κ z) (value_hom κ hom z)

    module _ (g : ℕ) (hg : g ≤ 64 * c) (B : Within c g e) where
      -- ---- whether there is a solution

      pub solution_consistent : (z : List Bool) → length z ≡ g → solves κ e z ≡ true → consistent c κ after ≡ true
      solution_consistent z n h = is-consistent c κ after g hg after_distinct (after-within g B) z n (sym (solves-same z) ∙ h)

      -- any choice of the free unknowns is completed to a solution
      pub completed-solves : consistent c κ after ≡ true → (z : List Bool) → length z ≡ g → solves κ e (completed c κ after z) ≡ true
      completed-solves h z n = solves-same (completed c κ after z) ∙ is-solved c κ after g hg after_distinct (after-within g B) h z n

      pub solvable : any (solves κ e) (all_bits g) ≡ consistent c κ after
      solvable =
          let o = replicate g false in
          bool_ext (any (solves κ e) (all_bits g)) (consistent c κ after)
          (λ h. let (z, n, s) = any-bits (solves κ e) g h in solution_consistent z n s)
          (λ h.
          let n = length-replicate g false in
          bits-any (solves κ e) g (completed c κ after o) (length-completed κ o ∙ n) (completed-solves h o n))

      -- ---- which vectors are solutions

      -- the completion leaves the free unknowns as they are
      pub completed-free : (z : List Bool) (b : ℕ) → owner c after b ≡ none → get_or (completed c κ after z) b false ≡ get_or z b false
      completed-free z b h = fill-free c κ after [] z b (ap (owner c after) (zero-add b) ∙ h)

      pub solution_completed : (z : List Bool) → length z ≡ g → solves κ e z ≡ true → completed c κ after z ≡ z
      solution_completed z n h = is-completed c κ after g hg after_distinct (after-within g B) z n (sym (solves-same z) ∙ h)

      pub solution_unique : (u v : List Bool) → length u ≡ g → length v ≡ g → solves κ e u ≡ true → solves κ e v ≡ true
          → ((b : ℕ) → owner c after b ≡ none → get_or u b false ≡ get_or v b false) → u ≡ v
      solution_unique u v nu nv hu hv f = is_unique c κ after g hg after_distinct (after-within g B) u v nu nv (sym (solves-same u) ∙ hu) (sym (solves-same v) ∙ hv) f

      -- a pivot is the sum of the unknowns before it that its equation has, and the constant
      pub pivot_value : (z : List Bool) → length z ≡ g → solves κ e z ≡ true → (k b : ℕ) → k < length after → lead c (at after k) ≡ suc b → get_or z b false ≡ dot 0 (at after k) (take b z) ⊕ κ (at after k)
      pivot_value z n h k b l q =
          let m = after-within g B k l in
          eq_⊕ (get_or z b false) (dot 0 (at after k) (take b z) ⊕ κ (at after k))
          (ap not (sym (value-lead c κ after after_distinct z (omega arith) (λ i d. rw n (after-within g B i d)) (at after k) b q (omega arith)) ∙ vanishes-at (value κ z) after (sym (solves-same z) ∙ h) k l))

      -- so two solutions that agree at the free unknowns before it agree at it
      pub pivot_follows : (u v : List Bool) → length u ≡ g → length v ≡ g → solves κ e u ≡ true → solves κ e v ≡ true → (k b : ℕ) → k < length after → lead c (at after k) ≡ suc b
          → ((t : ℕ) → t < b → owner c after t ≡ none → get_or u t false ≡ get_or v t false) → get_or u b false ≡ get_or v b false
      pivot_follows u v nu nv hu hv k b l q f =
          let m = after-within g B k l in
          let lu = length-take-le b u (omega arith) in
          let lv = length-take-le b v (omega arith) in
          pivot_value u nu hu k b l q
          ∙ ap (λ (s : Bool). s ⊕ κ (at after k)) (dot_ext 0 (at after k) (take b u) (take b v) (lu ∙ sym lv)
          (λ t d p. let w : t < b = omega arith in get_or-take b u t false w ∙ f t w (pivot_free k b t l q (rw (zero-add t) at p) (λ (x : t ≡ b). omega arith)) ∙ sym (get_or-take b v t false w)))
          ∙ sym (pivot_value v nv hv k b l q)

      -- ---- the first and the last, and how many

      pub first_solution : (z : List Bool) → length z ≡ g → solves κ e z ≡ true → before z (completed c κ after (replicate g false)) ≡ false
      first_solution z n h = is-first c κ after g hg after_distinct (after-within g B) z n (sym (solves-same z) ∙ h)

      pub last_solution : (z : List Bool) → length z ≡ g → solves κ e z ≡ true → before (completed c κ after (replicate g true)) z ≡ false
      last_solution z n h = is_last c κ after g hg after_distinct (after-within g B) z n (sym (solves-same z) ∙ h)

      pub rank_le : (solve c e r).rank ≤ g
      rank_le = rw (rank-counts c e r) (count-led_le c κ after g hg after_distinct (after-within g B))

      pub solution_count : count (solves κ e) (all_bits g) ≡ pick (consistent c κ after) (2 ^ (g - (solve c e r).rank)) 0
      solution_count =
          count_ext (solves κ e) (solves κ after) (all_bits g) (λ z m. solves-same z) ∙ is-counted c κ after g hg after_distinct (after-within g B)
          ∙ ap (λ (n : ℕ). pick (consistent c κ after) (2 ^ (g - n)) 0) (sym (rank-counts c e r))

      -- ---- the rest

      -- a row with no coefficient left has the value that it carries
      pub settled : (z : List Bool) → length z ≡ g → solves κ e z ≡ true → (j : ℕ) → j < length r → lead c (at rest j) ≡ 0 → value κ z (at r j) ≡ κ (at rest j)
      settled z n h j l q = sym (rest_values z h j l) ∙ ap (λ (b : Bool). b ⊕ κ (at rest j)) (dot-no-lead c (at rest j) z (omega arith) q)

      -- any row has the sum of its free unknowns and what it carries
      pub rest-by-free : consistent c κ after ≡ true → (z : List Bool) → length z ≡ g → (j : ℕ) → j < length r → value κ (completed c κ after z) (at r j) ≡ dot 0 (at rest j) z ⊕ κ (at rest j)
      rest-by-free h z n j l =
          let m = solve_sized c e r in
          sym (rest_values (completed c κ after z) (completed-solves h z n) j l)
          ∙ ap (λ (b : Bool). b ⊕ κ (at rest j)) (dot-fill c κ after [] z (at rest j) (λ t y q. let (k, d, a, u) = owner-some c after t y q in (reduced c e r).rests k t d (ap (lead c) a ∙ u) j (omega arith)))

      -- at the first solution what it carries
      pub first-value : consistent c κ after ≡ true → (j : ℕ) → j < length r → value κ (completed c κ after (replicate g false)) (at r j) ≡ κ (at rest j)
      first-value h j l = rest-by-free h (replicate g false) (length-replicate g false) j l ∙ ap (λ (u : Bool). u ⊕ κ (at rest j)) (dot-zeros 0 (at rest j) g)

      -- with a coefficient left two solutions differ at it
      pub unsettled : consistent c κ after ≡ true → (j b : ℕ) → j < length r → lead c (at rest j) ≡ suc b → b < g
          → (value κ (completed c κ after (replicate g false)) (at r j) ≡ κ (at rest j)) × (value κ (completed c κ after (unit g b)) (at r j) ≡ not (κ (at rest j)))
      unsettled h j b l q w = (
        first-value h j l,
        rest-by-free h (unit g b) (length-set (replicate g false) b true ∙ length-replicate g false) j l
            ∙ ap (λ (u : Bool). u ⊕ κ (at rest j)) (dot-unit 0 (at rest j) g b w ∙ ap (λ (t : ℕ). has t (at rest j)) (zero-add b) ∙ lead-holds c (at rest j) b q),
      )
