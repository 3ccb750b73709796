use Rattle.solve.proofs.Judging.{contradiction_is}
use Rattle.solve.proofs.judged.contradiction.Goals as goal

pub judge-requires : goal.judge-requires
judge-requires c = contradiction_is
