use Rattle.counting.proofs.Counting.{Spreading}
use Rattle.counting.proofs.spread.Given as goal

abbrev pub invariant-loop-i : goal.invariant-loop-i
invariant-loop-i l = Spreading l.initial.left l.initial.right l.i l.left l.right
