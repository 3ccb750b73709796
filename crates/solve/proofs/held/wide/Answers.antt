use Rattle.solve.proofs.Answers.{wide_is}
use Rattle.solve.proofs.held.wide.Goals as goal

pub hold-requires : goal.hold-requires
hold-requires c = wide_is
