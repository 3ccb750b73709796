use Rattle.checks.proofs.Turning.{slot_near, slot_far}
use Rattle.checks.proofs.register.Ring.slot.Goals as goal

pub returns-then-x-clause-is : goal.returns-then-x-clause-is
returns-then-x-clause-is g c = slot_near _ _ _ c.if-x.true

pub returns-else-x-clause-is : goal.returns-else-x-clause-is
returns-else-x-clause-is g c = slot_far _ _ _ c.if-x.false
