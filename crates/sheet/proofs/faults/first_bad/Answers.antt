use Rattle.std.proofs.Common.{◌≡◌, ◌+◌, ◌-◌, ◌*◌, ℕ, sym, ap, ◌∙◌, arith, drop}
use Rattle.bits.specs.Vectors.{zeros}
use Rattle.meaning.specs.Limits.{record_bytes, mask_bytes}
use Rattle.meaning.specs.Sheet.{mask}
use Rattle.sheet.proofs.Joining.{word_there}
use Rattle.sheet.proofs.Records.{word_passed, word_stops, mask_end, head_bad, mask_bad, both-fine, stops, goes_on_lem, ends}
use Rattle.sheet.proofs.faults.first_bad.Goals as goal

pub loop-k-preserved : goal.loop-k-preserved
unfolding record_bytes mask_bytes
loop-k-preserved c =
    let from = c.barred_from-from.result in
    let there = word_there _ _ _ _ c.loop-k-test.true (omega arith) c.mask_word.ensures in
    let e : 64 * (c.loop-k.k + 1) + (from - 64 * (c.loop-k.k + 1)) ≡ 64 * c.loop-k.k + 64 = omega arith in (
      c.loop-k.invariant.0,
      omega arith,
      ap (λ (x : ℕ). zeros (drop x (mask c.args.sheet.now c.records.i))) e
          ∙ sym (word_passed _ _ _ _ _ there (omega arith) (omega arith) (rw c.loop-k.invariant.1 at c.if-mask_word-low-ne0.false))
          ∙ c.loop-k.invariant.2,
    )

pub returns-then-mask_word-low-ne0 : goal.returns-then-mask_word-low-ne0
unfolding record_bytes mask_bytes
returns-then-mask_word-low-ne0 c =
    let there = word_there _ _ _ _ c.loop-k-test.true (omega arith) c.mask_word.ensures in
    let named = word_stops _ _ _ _ _ there (omega arith) (omega arith) (rw c.loop-k.invariant.1 at c.if-mask_word-low-ne0.true) in
    (stops _ _ _ (omega arith) (mask_bad _ _ (rw c.barred_from-from.ensures at (sym c.loop-k.invariant.2 ∙ named))) c.records.invariant.1, omega arith)

pub returns-then-not-head_fine : goal.returns-then-not-head_fine
unfolding record_bytes mask_bytes
returns-then-not-head_fine c =
    (stops _ _ _ (omega arith) (head_bad _ _ (sym c.head_fine.ensures ∙ c.if-not-head_fine.true)) c.records.invariant.1, omega arith)

pub records-preserved : goal.records-preserved
unfolding record_bytes mask_bytes
records-preserved c =
    let none = rw c.barred_from-from.ensures at (sym c.loop-k.invariant.2 ∙ mask_end _ _ _ (omega arith)) in (
      c.loop-k.invariant.0,
      goes_on_lem _ _ _ (omega arith) (both-fine _ _ (sym c.head_fine.ensures ∙ c.if-not-head_fine.false) none) c.records.invariant.1,
    )

pub returns-after-records : goal.returns-after-records
unfolding record_bytes mask_bytes
returns-after-records c =
    let e = ends _ _ c.records.i c.records-test.false c.records.invariant.1 in
    rw c.records.invariant.0 (omega (arith, e))
