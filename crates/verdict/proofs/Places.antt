-- The verdict of a list of candidates that are the values of some rows at the solutions of some equations, read off the reduced rows.
--     solutions, block      the solutions in order; the rows' values at one of them
--     the_first, the_last   the first and the last candidate
--     settled_at_lem            whether all candidates agree at a place
--     the_strips            all three strips
--     verdict-rows          the verdict
use mathlib.Core.Path.{◌≡◌, refl, sym, ap, ap₂, ◌∙◌}
use Prim.Native.Nat.{ℕ, zero, suc, ◌+◌, ◌*◌, ◌-◌, ◌^◌, ◌≤◌, ◌<◌}
use native.Mathlib.Omega.{arith}
use mathlib.Core.Bool.{Bool, true, false}
use mathlib.Core.List.Memᴰ
use mathlib.Core.List.{List, [], ◌++◌, map, Memᴰ}
use lib.ListN.{length, get_or, replicate, length-map, length-set, length-replicate, replicate-append-replicate}
use lib.Dec.{eqb}
use borrow.Author.Tests.{eq-eqb, ne_eqb}
use Rattle.bits.specs.Vectors.{◌⊕◌, bit, pick, filter, all_bits, Before}
use Rattle.bits.specs.Rows.{Row, at}
use Rattle.bits.proofs.Tests.{filter_mem, mem_filter, length-filter, get_or_map}
use Rattle.bits.proofs.Xor.{⊕-false}
use Rattle.bits.proofs.Rising.{all-bits, bits-length, rises_bits, rises_filter}
use Rattle.gf2.specs.Solve.{lead, solve}
use Rattle.gf2.specs.System.{Within, Hom, dot, value, solves, consistent, completed, unit}
use Rattle.gf2.proofs.Sums.{dot_append, dot-none}
use Rattle.gf2.proofs.Leads.{lead_above}
use Rattle.gf2.proofs.Solutions.{after, rest, rest-length, length-completed, rest-within, completed-solves, first_solution, last_solution, solution_count, settled, rest-by-free, first-value, unsettled}
use Rattle.meaning.specs.Strips.{settled_at, first, last, strips}
use Rattle.meaning.specs.Answers.{verdict, writing}
use Rattle.meaning.specs.declared.Answer.TheVariants.{Unique, Ambiguous}
use Rattle.verdict.specs.OffRows.{settled_by, first_by, last_by, strips_by, verdict_by}
use Rattle.verdict.proofs.Listing.{first_of, last_of, common-same, common_other, tab_places, places, strips_are, verdict-none, verdict-is}

-- κ gives a row's constant
module _ (c : ℕ) (κ : Row → Bool) (hom : Hom κ) (e r : List Row) (g : ℕ) (hg : g ≤ 64 * c) (B : Within c g e) where
  abbrev pub solutions : List (List Bool)
  solutions = filter (solves κ e) (all_bits g)

  abbrev pub block : List Bool → List Bool
  block t = map (value κ t) r

  pub sized : length (rest c e r) ≡ length r
  sized = rest-length c e r

  member : (t : List Bool) → Memᴰ t solutions → (length t ≡ g) × (solves κ e t ≡ true)
  member t m = let (k, s) = filter_mem (solves κ e) (all_bits g) m in (bits-length g t k, s)

  pub size : length (map block solutions) ≡ pick (consistent c κ (after c e r)) (2 ^ (g - (solve c e r).rank)) 0
  size = length-map solutions block ∙ length-filter (solves κ e) (all_bits g) ∙ solution_count c e r κ hom g hg B

  module _ (ok : consistent c κ (after c e r) ≡ true) where
    -- ---- the first and the last

    -- any choice of the free unknowns gives one
    full : (z : List Bool) → length z ≡ g → Memᴰ (completed c κ (after c e r) z) solutions
    full z l = mem_filter (solves κ e) (all-bits g _ (length-completed c e r κ z ∙ l)) (completed-solves c e r κ hom g hg B ok z l)

    abbrev lowest : List Bool
    lowest = completed c κ (after c e r) (replicate g false)

    abbrev highest : List Bool
    highest = completed c κ (after c e r) (replicate g true)

    the_first : first (map block solutions) ≡ map (first_by c κ) (rest c e r)
    the_first =
        first_of block solutions lowest (rises_filter Before (solves κ e) (all_bits g) (rises_bits g)) (full (replicate g false) (length-replicate g false))
        (λ y m. let (l, s) = member y m in first_solution c e r κ hom g hg B y l s)
        ∙ places [] (value κ lowest) (first_by c κ) r (rest c e r) sized (λ j l. ap bit (first-value c e r κ hom g hg B ok j l))

    -- ---- whether all agree

    module _ (C : Within c g r) where
      -- no row has a coefficient beyond the unknowns
      sum-all : (j : ℕ) → j < length r → dot 0 (at (rest c e r) j) (replicate (64 * c) true) ≡ dot 0 (at (rest c e r) j) (replicate g true)
      sum-all j h =
          let x = at (rest c e r) j in
          let k : ℕ = 64 * c - g in
          let n : g + k ≡ 64 * c = omega arith in
          let z = length-replicate {A = Bool} g true in
          let y = length-replicate {A = Bool} k true in
          ap (λ (m : ℕ). dot 0 x (replicate m true)) (sym n) ∙ ap (dot 0 x) (sym (replicate-append-replicate g k true))
          ∙ dot_append 0 x (replicate g true) (replicate k true)
          ∙ ap (λ (b : Bool). dot 0 x (replicate g true) ⊕ b) (dot-none (0 + length (replicate g true)) x (replicate k true) (λ t p q. lead_above c x t (omega (arith, rest-within c e r g B C j h)) (omega arith)))
          ∙ ⊕-false (dot 0 x (replicate g true))

      the_last : last (map block solutions) ≡ map (last_by c κ) (rest c e r)
      the_last =
          last_of block solutions highest (rises_filter Before (solves κ e) (all_bits g) (rises_bits g)) (full (replicate g true) (length-replicate g true))
          (λ y m. let (l, s) = member y m in last_solution c e r κ hom g hg B y l s)
          ∙ places [] (value κ highest) (last_by c κ) r (rest c e r) sized
          (λ j l. ap bit (rest-by-free c e r κ hom g hg B ok (replicate g true) (length-replicate g true) j l) ∙ ap (λ (b : Bool). bit (b ⊕ κ (at (rest c e r) j))) (sym (sum-all j l)))

      pub settled_at_lem : (j : ℕ) → j < length r → settled_at (map block solutions) j ≡ settled_by c κ (at (rest c e r) j)
      settled_at_lem j h = go (lead c (at (rest c e r) j)) refl
        where
          x : Row
          x = at (rest c e r) j

          read : (t : List Bool) → get_or (block t) j false ≡ value κ t (at r j)
          read t = get_or_map (value κ t) r j [] false h

          low : Memᴰ (block lowest) (map block solutions)
          low = Memᴰ.map block (full (replicate g false) (length-replicate g false))

          go : (n : ℕ) → lead c x ≡ n → settled_at (map block solutions) j ≡ settled_by c κ x
          go zero q =
              common-same (λ (y : List Bool). get_or y j false) (map block solutions) (κ x) (block lowest) low
              (λ y m.
              let (t, k, f) = Memᴰ.of_map block solutions m in
              let (l, s) = member t k in
              ap (λ (u : List Bool). get_or u j false) (sym f) ∙ read t ∙ settled c e r κ hom g hg B t l s j h q)
              ∙ sym (rw (eq-eqb (lead c x) 0 q) refl)
          go (suc b) q =
              let p : b < g = rw q at (rest-within c e r g B C j h) in
              let (a, z) = unsettled c e r κ hom g hg B ok j b h q p in
              common_other (λ (y : List Bool). get_or y j false) (map block solutions) (κ x) (block lowest) (block (completed c κ (after c e r) (unit g b)))
              low (Memᴰ.map block (full (unit g b) (length-set (replicate g false) b true ∙ length-replicate g false))) (read lowest ∙ a) (read _ ∙ z)
              ∙ sym (rw (ne_eqb (lead c x) 0 (λ (w : lead c x ≡ 0). omega arith)) refl)

      pub the_strips : (n : ℕ) → length r ≡ 2 ^ n → strips n (map block solutions) ≡ strips_by c κ (rest c e r)
      the_strips n l =
          strips_are n (map block solutions)
          ∙ ap₂ (λ (a b : List ℕ). a ++ b)
          (ap₂ (λ (a b : List ℕ). a ++ b) (tab_places [] (2 ^ n) (settled_at (map block solutions)) (settled_by c κ) (rest c e r) (sized ∙ l) (λ j h. settled_at_lem j (omega arith))) the_first)
          the_last

  -- ---- the verdict

  pub verdict-rows : Within c g r → (n : ℕ) → length r ≡ 2 ^ n → (m : ℕ) (out : List ℕ)
      → verdict n g m (map block solutions) out ≡ verdict_by c κ (strips_by c κ (rest c e r)) g m (solve c e r) out
  unfolding verdict
  verdict-rows C n l m out = go (consistent c κ (after c e r)) refl
    where
      d : ℕ
      d = g - (solve c e r).rank

      go : (b : Bool) → consistent c κ (after c e r) ≡ b → verdict n g m (map block solutions) out ≡ verdict_by c κ (strips_by c κ (rest c e r)) g m (solve c e r) out
      go true q =
          rw q
          (verdict-is n g m (map block solutions) out d (rw q at size)
          ∙ ap (λ (s : List ℕ). pick (eqb d 0) (writing s out (Unique g m)) (writing s out (Ambiguous g m d))) (the_strips q C n l))
      go false q = rw q (verdict-none n g m (map block solutions) out (rw q at size))
