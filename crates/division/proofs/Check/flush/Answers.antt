use Rattle.division.proofs.Division.{flush_more}
use Rattle.division.proofs.Check.flush.Goals as goal

pub loop-i-preserved : goal.loop-i-preserved
loop-i-preserved c = (c.shifted-s.ensures.small, flush_more _ _ _ _ _ c.loop-i.invariant.1 c.shifted-s.ensures)
