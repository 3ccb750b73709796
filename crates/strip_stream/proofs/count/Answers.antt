use Rattle.strip_stream.specs.Strips.{record_count}
use Rattle.strip_stream.proofs.Cases.{unwrapped}
use Rattle.strip_stream.proofs.count.Goals as goal

pub returns : goal.returns
unfolding record_count
returns c = unwrapped c.strips_in.result 1 _ _ (c.strips_in.ensures 1) c.unwrap_or.ensures
