-- What checking a sheet answers, refusal by refusal, in the values that the code has by then:
-- t, whether the sheet has N records; size, their number; k, the number of free records.
use mathlib.Core.Path.{◌≡◌, refl, sym, ap, ◌∙◌}
use Prim.Native.Nat.{ℕ, ◌*◌, ◌/◌, ◌^◌, ◌<◌, ◌≤◌}
use mathlib.Core.Bool.{Bool, true, false, ◌&&◌, ◌||◌, not}
use mathlib.Core.List.{List}
use lib.ListN.{length}
use lib.Dec.{eqb, leb, ltb}
use borrow.Author.Tests.{leb-true, leb-false, lt-ltb, le-ltb, eq-eqb, ne_eqb, not-false}
use Rattle.bits.specs.Vectors.{tab, first_place}
use Rattle.meaning.specs.Limits.{largest_n, record_bytes}
use Rattle.meaning.specs.Sheet.{fine, rule_at, rules, bad_record, frees}
use Rattle.meaning.specs.Answers.{bad_shape, bad_check, sheet_refusals, checking}
use Rattle.sheet.specs.Shapes.{recorded}
use Rattle.sheet.specs.Records.{first_fault}
use native.Mathlib.Omega.{arith}
use Rattle.sheet.proofs.Shapes.{recorded-true}
use Rattle.sheet.proofs.Records.{records_in}
use Rattle.meaning.specs.declared.Answer.TheVariants.{Done, BadShape, BadRecord, HoldsNothing, BadCheck}

shape_recorded : (n : ℕ) (s : List ℕ) → bad_shape n s ≡ not (recorded n (length s))
unfolding bad_shape recorded
shape_recorded n s = go (leb n largest_n) refl
  where
    go : (t : Bool) → leb n largest_n ≡ t → (ltb largest_n n || not (eqb (length s) (2 ^ n * record_bytes))) ≡ not (t && eqb (length s) (2 ^ n * record_bytes))
    go true h = rw (le-ltb largest_n n (leb-true n largest_n h))
    go false h = rw (lt-ltb largest_n n (leb-false n largest_n h))

module _ (n : ℕ) (s : List ℕ) (r : ℕ) {t : Bool} (g : t ≡ recorded n (length s)) where
  pub bad_shape_lem : not t ≡ true → BadShape ≡ checking n s r
  unfolding checking sheet_refusals
  bad_shape_lem h = rw (shape_recorded n s, ← g, h)

  abbrev size : ℕ
  size = length s / record_bytes

  module _ (h : not t ≡ false) where
    e : size ≡ 2 ^ n
    e = records_in (length s) (2 ^ n) (recorded-true n (length s) (sym g ∙ not-false t h)).1

    first : first_fault s ≡ bad_record n s
    unfolding bad_record
    first = ap (λ (m : ℕ). first_place not (tab m (fine s))) e

    pub bad_record_lem : (place : ℕ) → place ≡ first_fault s → place < size → BadRecord place ≡ checking n s r
    unfolding checking sheet_refusals
    bad_record_lem place p b = rw (shape_recorded n s, ← g, h, ← first, ← p, ← e, lt-ltb place size b)

    module _ (q : first_fault s ≡ size) (k : ℕ) (f : k ≡ frees (tab size (rule_at s))) where
      within : size ≤ first_fault s
      within = omega (arith, q)

      count : frees (rules n s) ≡ k
      unfolding rules
      count = sym (f ∙ ap (λ (m : ℕ). frees (tab m (rule_at s))) e)

      pub holds-nothing : k ≡ 0 → HoldsNothing ≡ checking n s r
      unfolding checking sheet_refusals
      holds-nothing v = rw (shape_recorded n s, ← g, h, ← first, ← e, le-ltb (first_fault s) size within, count, eq-eqb k 0 v)

      module _ (some : k ≡ 0 → ⊥) (b : Bool) (c : b ≡ bad_check r k) where
        pub bad_check_lem : b ≡ true → BadCheck ≡ checking n s r
        unfolding checking sheet_refusals
        bad_check_lem v = rw (shape_recorded n s, ← g, h, ← first, ← e, le-ltb (first_fault s) size within, count, ne_eqb k 0 some, ← c, v)

        pub done : b ≡ false → Done ≡ checking n s r
        unfolding checking sheet_refusals
        done v = rw (shape_recorded n s, ← g, h, ← first, ← e, le-ltb (first_fault s) size within, count, ne_eqb k 0 some, ← c, v)
