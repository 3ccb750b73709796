use Rattle.solve.proofs.Answers.{ambiguous_is}
use Rattle.solve.proofs.held.ambiguous.Goals as goal

pub hold-requires : goal.hold-requires
hold-requires c = ambiguous_is
