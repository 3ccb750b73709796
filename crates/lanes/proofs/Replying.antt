-- The reply, in the values that the code has by then.
--     unsound                       a lane is inconsistent
--     sound-read                    none is
use mathlib.Core.Path.{◌≡◌, refl, sym, ap, ap₂, ◌∙◌}
use Prim.Native.Nat.{ℕ, ◌-◌, ◌*◌, ◌/◌, ◌≤◌, ◌<◌}
use native.Mathlib.Omega.{arith}
use mathlib.Core.List.{List, [], ◌∷◌, ◌++◌, map, flatten}
use lib.ListN.{length, drop, length-append, length-map}
use borrow.Author.Tests.{lt-ltb, le-ltb}
use Rattle.bits.specs.Rows.{Row, row, Wide, rows_of}
use Rattle.bits.proofs.Tests.{length-tab}
use Rattle.bits.proofs.RowLaws.{length-flatten}
use Rattle.gf2.specs.Solve.{Sys, sys}
use Rattle.meaning.specs.Answers.{Reply, leaving}
use Rattle.meaning.specs.declared.Answer.{Answer}
use Rattle.verdict.specs.Whole.{by_dimension}
use Rattle.meaning.specs.declared.Answer.TheVariants.{LaneInconsistent}
use Rattle.lanes.specs.Lanes.{first_unsound, row_record, row_mark, row_repaired, row_reply}
use Rattle.lanes.proofs.Spelling.{record_long}

wide-records : (c : ℕ) (rs : List Row) → Wide 64 (map (row_record c) rs)
wide-records c [] = tt
wide-records c (x ∷ rs) = (record_long c x, wide-records c rs)

pub repaired-long : (c : ℕ) (rs : List Row) → length (row_repaired c rs) ≡ 65 * length rs
unfolding row_repaired
repaired-long c rs =
    let l : length (flatten (map (row_record c) rs)) ≡ length rs * 64 = length-flatten 64 (map (row_record c) rs) (wide-records c rs) ∙ ap (λ (k : ℕ). k * 64) (length-map rs (row_record c)) in
    length-append (flatten (map (row_record c) rs)) (map (row_mark c) rs) ∙ omega (arith, l, length-map rs (row_mark c))

module _ (c w : ℕ) (eqs vals : List ℕ) (g m rank : ℕ) (out : List ℕ) where
  abbrev left : Sys
  left = sys (rows_of w eqs) (rows_of w vals) rank

  pub unsound : (t : ℕ) → t ≡ first_unsound c (rows_of w eqs) → t < 512 → leaving out (LaneInconsistent t g m) ≡ row_reply c g m left out
  unfolding row_reply
  unsound t e h = rw (← e, lt-ltb t 512 h) refl

  pub sound-read : 512 ≤ first_unsound c (rows_of w eqs) → (a : Answer) → a ≡ by_dimension g m (g - rank) → (out' : List ℕ) → out' ≡ row_repaired c (rows_of w vals) ++ drop (65 * (length vals / w)) out
      → leaving out' a ≡ row_reply c g m left out
  unfolding row_reply
  sound-read h a is out' z =
      let long : length (rows_of w vals) ≡ length vals / w = length-tab (length vals / w) (row w vals) in
      rw (le-ltb (first_unsound c (rows_of w eqs)) 512 h)
      (ap₂ {C = Reply} (λ l b. leaving l b) (z ∙ ap (λ (k : ℕ). row_repaired c (rows_of w vals) ++ drop k out) (sym (repaired-long c (rows_of w vals) ∙ ap (λ (k : ℕ). 65 * k) long))) is)
