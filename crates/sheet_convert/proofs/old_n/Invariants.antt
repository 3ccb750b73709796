use Rattle.meaning.specs.Limits.{old_layout}
use Rattle.meaning.proofs.Sizing.{Left}
use Rattle.sheet_convert.proofs.old_n.Given as goal

abbrev pub invariant-loop-n : goal.invariant-loop-n
invariant-loop-n l = Left old_layout l.old l.n
