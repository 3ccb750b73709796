use Rattle.descent.proofs.Slots.{PartUpTo}
use Rattle.descent.proofs.block.part.Given as goal

abbrev pub invariant-loop-j : goal.invariant-loop-j
invariant-loop-j l = PartUpTo l.w l.j l.left l.initial.right l.initial.left_marks l.initial.right_marks l.right l.left_marks l.right_marks
