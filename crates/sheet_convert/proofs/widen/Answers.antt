use Rattle.bits.proofs.Filling.{filling_next}
use Rattle.sheet_convert.proofs.widen.Goals as goal

pub loop-p-preserved : goal.loop-p-preserved
loop-p-preserved c = filling_next c.loop-p.invariant _ c.loop-p-test.true c.byte_at.ensures
