use Rattle.solve.proofs.Answers.{inconsistent_is}
use Rattle.solve.proofs.held.inconsistent.Goals as goal

pub hold-requires : goal.hold-requires
hold-requires c = inconsistent_is
