use Rattle.std.proofs.Common.{arith}
use Rattle.std.proofs.lemmas.Grind.{common_steps}
use Rattle.descent.specs.Descending.{widest, roomy}
use Rattle.descent.proofs.limits.roomy.Goals as goal

pub returns-then-c-w : goal.returns-then-c-w
unfolding widest roomy
returns-then-c-w c = grind (arith, common_steps)

pub returns-else-c-w : goal.returns-else-c-w
unfolding widest roomy
returns-else-c-w c = grind (arith, common_steps)
