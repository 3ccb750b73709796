use Rattle.descent.proofs.Slots.{settle_turn, settle_end}
use Rattle.descent.proofs.block.settle.Goals as goal

pub loop-j-preserved : goal.loop-j-preserved
loop-j-preserved c = settle_turn c.loop-j.invariant c.settle_one.ensures

pub returns : goal.returns
returns c = settle_end c.loop-j-test.false c.loop-j.invariant
