use Rattle.meaning.specs.Limits.{strip_width}
use Rattle.stream.proofs.Laying.{blank_long, laid-is}
use native.Mathlib.Omega.{arith}
use Rattle.stream.proofs.record.lay.Goals as goal

pub slice_bounds-copy-end-2 : goal.slice_bounds-copy-end-2
unfolding strip_width
slice_bounds-copy-end-2 c = omega (arith, blank_long c.args.size c.args.found.now _ c.requires.0 c.requires.1 c.requires.2)

pub overflow_mul-size : goal.overflow_mul-size
unfolding strip_width
overflow_mul-size c = omega (arith, c.requires.1)

pub slice_bounds-copy-end-4 : goal.slice_bounds-copy-end-4
unfolding strip_width
slice_bounds-copy-end-4 c =
    omega (arith, blank_long c.args.size c.args.found.now _ c.requires.0 c.requires.1 c.requires.2)

pub slice_bounds-copy-end-6 : goal.slice_bounds-copy-end-6
unfolding strip_width
slice_bounds-copy-end-6 c =
    omega (arith, blank_long c.args.size c.args.found.now _ c.requires.0 c.requires.1 c.requires.2)

pub returns : goal.returns
unfolding strip_width
returns c =
    laid-is c.args.size c.args.found.now c.args.strips.now c.requires.0 c.requires.1 c.requires.2 _ _ _ c.copy.ensures c.copy-2.ensures c.copy-3.ensures
