-- Whether a row has its place: the tests of `fits`, one after the other, and what `rule_row` leaves.
--     narrow, far, short, few, low, last     each test of the code, and what the definition then says
--     room, has_room                         what holds where all is there
--     part_wide                              the part that is the row has w words
--     ruled-is, ruled-not, ruled-at          what `rule_row` leaves
use mathlib.Core.Path.{◌≡◌, refl, sym, ◌∙◌}
use Prim.Native.Nat.{ℕ, ◌+◌, ◌-◌, ◌*◌, ◌/◌, ◌≤◌, ◌<◌}
use native.Mathlib.Omega.{arith}
use native.Mathlib.Nat.{le-div_iff_mul-le, div-lt_iff_lt-mul}
use mathlib.Core.Bool.{Bool, true, false}
use mathlib.Core.List.{List}
use lib.ListN.{length, take, drop, length-take, length-drop}
use lib.Seq.{paste}
use lib.Dec.{eqb, leb, ltb}
use borrow.Author.Tests.{lt-ltb, le-ltb, le-leb, lt-leb, ltb-true, leb-true, leb-false}
use Rattle.bits.specs.Rows.{rows}
use Rattle.bits.proofs.Tests.{and_l, and_r}
use Rattle.meaning.specs.Limits.{record_bytes, mask_bytes}
use Rattle.meaning.specs.Sheet.{byte, mask}
use Rattle.model.specs.Model.{rule_value}
use Rattle.model.specs.RowValues.{row_values}
use Rattle.ruling.specs.Ruling.{fitting, ruled}

no_record : (sheet at : ℕ) → sheet / record_bytes ≤ at → sheet < (at + 1) * record_bytes
unfolding record_bytes mask_bytes
no_record sheet at h = omega arith

a_record : (sheet at : ℕ) → at < sheet / record_bytes → (at + 1) * record_bytes ≤ sheet
unfolding record_bytes mask_bytes
a_record sheet at h = omega arith

module _ (d to us sheet at c w : ℕ) where
  pub narrow : w ≤ c → false ≡ fitting d to us sheet at c w
  unfolding fitting
  narrow p = rw (le-ltb c w p)

  module _ (p : c < w) where
    pub far : 8 * mask_bytes ≤ at → false ≡ fitting d to us sheet at c w
    unfolding fitting
    far q = rw (lt-ltb c w p, le-ltb at (8 * mask_bytes) q)

    module _ (q : at < 8 * mask_bytes) where
      pub short : sheet / record_bytes ≤ at → false ≡ fitting d to us sheet at c w
      unfolding fitting
      short r = rw (lt-ltb c w p, lt-ltb at (8 * mask_bytes) q, lt-leb ((at + 1) * record_bytes) sheet (no_record sheet at r))

      module _ (r : at < sheet / record_bytes) where
        pub few : us / w < at → false ≡ fitting d to us sheet at c w
        unfolding fitting
        few s = rw (lt-ltb c w p, lt-ltb at (8 * mask_bytes) q, le-leb ((at + 1) * record_bytes) sheet (a_record sheet at r), lt-leb (at * w) us ((div-lt_iff_lt-mul {k = w} {x = us} {y = at} (omega arith)).0 s))

        module _ (s : at ≤ us / w) where
          there : at * w ≤ us
          there = (le-div_iff_mul-le {k = w} {x = at} {y = us} (omega arith)).0 s

          pub low : d < w → false ≡ fitting d to us sheet at c w
          unfolding fitting
          low t = rw (lt-ltb c w p, lt-ltb at (8 * mask_bytes) q, le-leb ((at + 1) * record_bytes) sheet (a_record sheet at r), le-leb (at * w) us there, lt-leb (to + w) d (omega arith))

          pub last : w ≤ d → leb to (d - w) ≡ fitting d to us sheet at c w
          unfolding fitting
          last t = rw (lt-ltb c w p, lt-ltb at (8 * mask_bytes) q, le-leb ((at + 1) * record_bytes) sheet (a_record sheet at r), le-leb (at * w) us there) (go (leb to (d - w)) refl)
            where
              go : (b : Bool) → leb to (d - w) ≡ b → b ≡ leb (to + w) d
              go true e = let l = leb-true to (d - w) e in sym (le-leb (to + w) d (omega arith))
              go false e = let l = leb-false to (d - w) e in sym (lt-leb (to + w) d (omega arith))

  -- ---- what holds where all is there

  pub room : fitting d to us sheet at c w ≡ true → ((to + w ≤ d) × (at * w ≤ us) × (c < w)) × ((at < 8 * mask_bytes) × ((at + 1) * record_bytes ≤ sheet))
  unfolding fitting
  room h =
      let h₁ = and_r (ltb c w) _ h in
      let h₂ = and_r (ltb at (8 * mask_bytes)) _ h₁ in
      let h₃ = and_r (leb ((at + 1) * record_bytes) sheet) _ h₂ in (
        (leb-true (to + w) d (and_r (leb (at * w) us) _ h₃), leb-true (at * w) us (and_l _ _ h₃), ltb-true c w (and_l _ _ h)),
        (ltb-true at (8 * mask_bytes) (and_l _ _ h₁), leb-true ((at + 1) * record_bytes) sheet (and_l _ _ h₂)),
      )

  pub has_room : (to + w ≤ d) × (at * w ≤ us) × (c < w) → (at < 8 * mask_bytes) × ((at + 1) * record_bytes ≤ sheet) → fitting d to us sheet at c w ≡ true
  unfolding fitting
  has_room (a, b, e) (f, g) = rw (lt-ltb c w e, lt-ltb at (8 * mask_bytes) f, le-leb ((at + 1) * record_bytes) sheet g, le-leb (at * w) us b, le-leb (to + w) d a)

-- ---- what `rule_row` leaves

pub part_wide : (d : List ℕ) (to w : ℕ) → to + w ≤ length d → length (take (to + w - to) (drop to d)) ≡ w
part_wide d to w h = simp (length-take, length-drop) (omega arith)

module _ (d : List ℕ) (to : ℕ) (us sheet : List ℕ) (at c w : ℕ) where
  pub ruled-is : fitting (length d) to (length us) (length sheet) at c w ≡ true → ruled d to us sheet at c w ≡ paste d to (rule_value (row_values c w) (eqb (byte sheet at 1) 1) (mask sheet at) (rows w at us)) w
  unfolding ruled
  ruled-is h = rw h

  pub ruled-not : fitting (length d) to (length us) (length sheet) at c w ≡ false → ruled d to us sheet at c w ≡ d
  unfolding ruled
  ruled-not h = rw h

  pub ruled-at : (d' : List ℕ) → d' ≡ ruled d to us sheet at c w → (to + w ≤ length d) × (at * w ≤ length us) × (c < w) → (at < 8 * mask_bytes) × ((at + 1) * record_bytes ≤ length sheet)
      → d' ≡ paste d to (rule_value (row_values c w) (eqb (byte sheet at 1) 1) (mask sheet at) (rows w at us)) w
  ruled-at d' e a b = e ∙ ruled-is (has_room (length d) to (length us) (length sheet) at c w a b)
