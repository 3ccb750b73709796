use native.Mathlib.Omega.{arith}
use mathlib.Core.Path.{sym, ◌∙◌}
use Rattle.polar.proofs.Transforming.{xor_step, xor_end}
use Rattle.polar.proofs.fold.Goals as goal

pub loop-i-preserved : goal.loop-i-preserved
loop-i-preserved c = xor_step _ _ _ (omega arith) (omega arith) ∙ c.loop-i.invariant

pub returns : goal.returns
returns c = sym (xor_end _ _ _ (omega arith)) ∙ c.loop-i.invariant
