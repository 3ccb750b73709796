use Rattle.solve.proofs.Judging.{no-constant-is}
use Rattle.solve.proofs.judged.no_constant.Goals as goal

pub judge-requires : goal.judge-requires
judge-requires c = no-constant-is
