use Rattle.descent.proofs.Slots.{SettleUpTo}
use Rattle.descent.proofs.block.settle.Given as goal

abbrev pub invariant-loop-j : goal.invariant-loop-j
invariant-loop-j l = SettleUpTo l.w l.j l.left l.initial.right l.initial.right_marks l.right l.right_marks
