use Rattle.lanes.proofs.Collecting.{AddedUpTo}
use Rattle.lanes.proofs.bad.add.Given as goal

abbrev pub invariant-loop-k : goal.invariant-loop-k
invariant-loop-k l = AddedUpTo l.c l.x l.initial.bad l.bad l.k
