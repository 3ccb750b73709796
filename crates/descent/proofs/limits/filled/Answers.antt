use Rattle.std.proofs.Common.{arith}
use Rattle.std.proofs.lemmas.Grind.{common_steps}
use Rattle.meaning.specs.Limits.{largest_n}
use Rattle.descent.specs.Descending.{widest, filled}
use Rattle.descent.proofs.Fitting.{whole-fits}
use Rattle.descent.proofs.limits.filled.Goals as goal

pub overflow_mul-whole : goal.overflow_mul-whole
unfolding largest_n widest
overflow_mul-whole c = whole-fits _ _ _ c.requires.0 c.requires.2 c.requires.1

pub returns-then-us-whole : goal.returns-then-us-whole
unfolding filled
returns-then-us-whole c = grind (arith, common_steps)

pub returns-else-us-whole : goal.returns-else-us-whole
unfolding filled
returns-else-us-whole c = grind (arith, common_steps)
