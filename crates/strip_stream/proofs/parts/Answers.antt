use Rattle.strip_stream.specs.Strips.{part_count}
use Rattle.strip_stream.proofs.Cases.{unwrapped}
use Rattle.strip_stream.proofs.parts.Goals as goal

pub returns : goal.returns
unfolding part_count
returns c = unwrapped c.strips_in.result 0 _ _ (c.strips_in.ensures 0) c.unwrap_or.ensures
