use mathlib.Core.Path.{◌≡◌, sym, ◌∙◌, subst}
use Prim.Native.Nat.{◌*◌, ◌≤◌}
use native.Mathlib.Omega.{arith}
use lib.ListN.{length}
use lib.Seq.{length-take-le}
use Rattle.bits.specs.Rows.{Row}
use Rattle.meaning.specs.Limits.{mask_bytes}
use Rattle.model.specs.Model.{Out}
use Rattle.descent.specs.Descending.{Filled}
use Rattle.descent.proofs.Running.{marked_is, marked_next, ready_marks, ready_positions}
use Rattle.descent.proofs.word.run.Goals as goal

pub slice_bounds-marks-end : goal.slice_bounds-marks-end
unfolding mask_bytes
slice_bounds-marks-end c = ready_positions c.requires.ready

pub slice_bounds-marks-end-2 : goal.slice_bounds-marks-end-2
unfolding mask_bytes
slice_bounds-marks-end-2 c = sym (length-take-le _ _ (ready_positions c.requires.ready))

pub mark-requires : goal.mark-requires
unfolding mask_bytes
mark-requires c = length-take-le _ _ (ready_positions c.requires.ready)

pub run_rows-requires : goal.run_rows-requires
unfolding mask_bytes
run_rows-requires c =
    let A = c.args in
    let M = c.mark in
    let l : length M.new.marks ≡ length A.word.now = M.auto.marks ∙ length-take-le _ _ (ready_positions c.requires.ready) in
    let e = marked_is A.shape A.n A.sheet.now A.word.now A.vals.now M.new.marks l M.ensures in
    let few = marked_next A.shape.coeffs A.shape.words A.n A.sheet.now A.word.now A.vals.now c.requires.ready.symbols in
    record { ready = ready_marks c.requires.ready _ l; start_bound = subst (λ (o : Out Row). o.after.next ≤ 64 * A.shape.coeffs) (sym e) (omega (arith, few, c.requires.word_bound)) }

pub returns : goal.returns
unfolding mask_bytes
returns c =
    let A = c.args in
    let M = c.mark in
    let R = c.run_rows in
    let l : length M.new.marks ≡ length A.word.now = M.auto.marks ∙ length-take-le _ _ (ready_positions c.requires.ready) in
    subst (λ (o : Out Row). Filled (length A.eqs.now) A.shape.words o R.new.vals R.new.us R.new.eqs R.result)
    (marked_is A.shape A.n A.sheet.now A.word.now A.vals.now M.new.marks l M.ensures) R.ensures
