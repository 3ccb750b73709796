use mathlib.Core.Path.{◌≡◌}
use Rattle.polar.proofs.Transforming.{togo}
use Rattle.polar.specs.Bytes.{xor_bytes}
use Rattle.polar.proofs.fold.Given as goal

abbrev pub invariant-loop-i : goal.invariant-loop-i
invariant-loop-i l = togo l.left l.right l.i ≡ xor_bytes l.initial.left l.right
