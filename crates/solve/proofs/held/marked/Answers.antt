use Rattle.solve.proofs.Answers.{marked_is}
use Rattle.solve.proofs.held.marked.Goals as goal

pub hold-requires : goal.hold-requires
hold-requires c = marked_is
