use Rattle.division.proofs.Division.{starts, fed_more}
use Rattle.division.proofs.Check.feed.Goals as goal

pub loop-b-init : goal.loop-b-init
loop-b-init c = rw c.limit-limit.ensures (starts c.args.self.length)

pub loop-b-preserved : goal.loop-b-preserved
loop-b-preserved c = fed_more _ _ _ _ _ c.loop-b-test.true c.loop-b.invariant c.shifted-s.ensures
