use mathlib.Core.Path.{sym}
use lib.Seq.{length-take-le}
use native.Mathlib.Omega.{arith}
use Rattle.std.proofs.lemmas.Result.{err_from_is_err_and}
use Rattle.strips.proofs.Solved.{asked, stopped, in_room, decided}
use Rattle.strips.proofs.solving.answer.Goals as goal

pub returns-in_err-g : goal.returns-in_err-g
returns-in_err-g c =
    let Q = asked c.args.s.now c.args.out.now c.requires.roomy c.requires.zeros c.requires.rows c.place.auto.vals c.solve.ensures in
    let p = err_from_is_err_and c.from_residual.result c.from_residual.ensures.1 in
    rw (p.1, p.2) (stopped Q _ c.in_err-g.was)

pub overflow_mul-used : goal.overflow_mul-used
overflow_mul-used c =
    let Q = asked c.args.s.now c.args.out.now c.requires.roomy c.requires.zeros c.requires.rows c.place.auto.vals c.solve.ensures in
    omega (arith, in_room Q _ _ _ c.in_ok-g.was, c.solve.auto.eqs, c.well_formed)

pub slice_bounds-conclude-end : goal.slice_bounds-conclude-end
slice_bounds-conclude-end c =
    let Q = asked c.args.s.now c.args.out.now c.requires.roomy c.requires.zeros c.requires.rows c.place.auto.vals c.solve.ensures in
    in_room Q _ _ _ c.in_ok-g.was

pub slice_bounds-conclude-end-2 : goal.slice_bounds-conclude-end-2
slice_bounds-conclude-end-2 c =
    let Q = asked c.args.s.now c.args.out.now c.requires.roomy c.requires.zeros c.requires.rows c.place.auto.vals c.solve.ensures in
    sym (length-take-le _ _ (in_room Q _ _ _ c.in_ok-g.was))

pub returns : goal.returns
returns c =
    let Q = asked c.args.s.now c.args.out.now c.requires.roomy c.requires.zeros c.requires.rows c.place.auto.vals c.solve.ensures in
    decided Q _ _ _ c.in_ok-g.was c.place.ensures _ c.conclude.ensures
