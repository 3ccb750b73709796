use mathlib.Core.Path.{refl, sym}
use lib.Seq.{length-take-le}
use native.Mathlib.Omega.{arith}
use Rattle.std.proofs.lemmas.Result.{err_from_is_err_and}
use Rattle.meaning.specs.Limits.{mask_bytes}
use Rattle.strips.proofs.Faults.{repair_refused, few_records, formed, whole, roomy, over, decided_at, narrow}
use Rattle.strips.proofs.repair.Goals as goal

pub returns-in_err-check : goal.returns-in_err-check
returns-in_err-check c =
    let A = c.args in
    let p = err_from_is_err_and c.from_residual.result c.from_residual.ensures.1 in
    rw (p.1, p.2) (repair_refused A.n A.sheet.now A.r A.ceiling A.strip.now A.lost.now A.out.now _ c.in_err-check.ensures)

pub slice_bounds-room-end : goal.slice_bounds-room-end
unfolding mask_bytes
slice_bounds-room-end c = let A = c.args in few_records A.n A.sheet.now A.r A.ceiling A.strip.now A.lost.now A.out.now c.in_ok-check.ensures

pub slice_bounds-word-end : goal.slice_bounds-word-end
unfolding mask_bytes
slice_bounds-word-end c = let A = c.args in sym (length-take-le _ _ (few_records A.n A.sheet.now A.r A.ceiling A.strip.now A.lost.now A.out.now c.in_ok-check.ensures))

pub erase-requires : goal.erase-requires
unfolding mask_bytes
erase-requires c = let A = c.args in length-take-le _ _ (few_records A.n A.sheet.now A.r A.ceiling A.strip.now A.lost.now A.out.now c.in_ok-check.ensures)

pub returns-then-ceiling-g : goal.returns-then-ceiling-g
returns-then-ceiling-g c =
    let A = c.args in
    over A.n A.sheet.now A.r A.ceiling A.strip.now A.lost.now A.out.now c.in_ok-check.ensures _ c.erase.ensures _ c.unknowns-g.ensures c.if-ceiling-g.true

pub invariant_of-s : goal.invariant_of-s
invariant_of-s c =
    let A = c.args in
    let F = c.in_ok-check.ensures in
    record {
      formed = formed A.n A.sheet.now A.r A.ceiling A.strip.now A.lost.now A.out.now F _ c.erase.ensures;
      whole = whole A.n A.sheet.now A.r A.ceiling A.strip.now A.lost.now A.out.now F _ c.erase.ensures;
      placed = omega arith;
      wide = refl;
      narrow = narrow A.n A.sheet.now A.r A.ceiling A.strip.now A.lost.now A.out.now F _ c.erase.ensures _ c.unknowns-g.ensures c.if-ceiling-g.false;
    }

pub answer-requires : goal.answer-requires
answer-requires c = let A = c.args in roomy A.n A.sheet.now A.r A.ceiling A.strip.now A.lost.now A.out.now c.in_ok-check.ensures _ c.erase.ensures

pub returns : goal.returns
returns c =
    let A = c.args in
    decided_at A.n A.sheet.now A.r A.ceiling A.strip.now A.lost.now A.out.now c.in_ok-check.ensures _ c.erase.ensures _ c.unknowns-g.ensures c.if-ceiling-g.false _ c.answer.ensures
