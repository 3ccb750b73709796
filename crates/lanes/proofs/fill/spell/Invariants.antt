use Rattle.lanes.proofs.Spelling.{SpeltUpTo}
use Rattle.lanes.proofs.fill.spell.Given as goal

abbrev pub invariant-loop-k : goal.invariant-loop-k
invariant-loop-k l = SpeltUpTo l.c l.x l.initial.out l.out l.k
