use Rattle.descent.specs.Block.{Marked}
use Rattle.descent.proofs.word.mark.Given as goal

abbrev pub invariant-loop-j : goal.invariant-loop-j
invariant-loop-j l = Marked l.j l.word l.marks
