use Rattle.meaning.specs.Limits.{layout}
use Rattle.meaning.proofs.Sizing.{Left}
use Rattle.stream.proofs.n_of.Given as goal

abbrev pub invariant-loop-n : goal.invariant-loop-n
invariant-loop-n l = Left layout l.sheet l.n
