use mathlib.Core.Path.{◌≡◌}
use lib.ListN.{length}
use Rattle.codec.proofs.Placing.{Taking}
use Rattle.codec.proofs.rules.take_free.Given as goal

abbrev pub invariant-loop-i : goal.invariant-loop-i
invariant-loop-i l = (length l.free ≡ length l.initial.free) × Taking l.sheet (length l.u) l.u l.free l.next l.i
