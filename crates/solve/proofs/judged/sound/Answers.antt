use Rattle.solve.proofs.Judging.{sound-is}
use Rattle.solve.proofs.judged.sound.Goals as goal

pub judge-requires : goal.judge-requires
judge-requires c = sound-is
