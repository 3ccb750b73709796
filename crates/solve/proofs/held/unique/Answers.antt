use Rattle.solve.proofs.Answers.{unique_is}
use Rattle.solve.proofs.held.unique.Goals as goal

pub hold-requires : goal.hold-requires
hold-requires c = unique_is
