use Rattle.strips.proofs.Loops.{PutUpTo}
use Rattle.strips.proofs.place.put.Given as goal

abbrev pub invariant-loop-k : goal.invariant-loop-k
invariant-loop-k l = PutUpTo l.k l.to l.bytes l.initial.vals l.vals
