use Rattle.std.proofs.Common.{arith}
use Rattle.lanes.proofs.Collecting.{add_next}
use Rattle.lanes.proofs.bad.add.Goals as goal

pub loop-k-preserved : goal.loop-k-preserved
loop-k-preserved c = add_next c.loop-k.invariant (omega arith) c.loop-k-test.true _ c.word.ensures
