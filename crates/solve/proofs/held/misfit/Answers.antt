use Rattle.solve.proofs.Answers.{misfit_is}
use Rattle.solve.proofs.held.misfit.Goals as goal

pub hold-requires : goal.hold-requires
hold-requires c = misfit_is
