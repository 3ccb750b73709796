use Rattle.std.proofs.Common.{arith}
use Rattle.std.proofs.lemmas.Grind.{common_steps}
use Rattle.descent.specs.Descending.{widest}
use Rattle.system.specs.Solving.{spaced}
use Rattle.system.proofs.limits.spaced.Goals as goal

pub returns-then-vals-eqs : goal.returns-then-vals-eqs
unfolding widest spaced
returns-then-vals-eqs c = grind (arith, common_steps)

pub returns-else-vals-eqs : goal.returns-else-vals-eqs
unfolding widest spaced
returns-else-vals-eqs c = grind (arith, common_steps)
