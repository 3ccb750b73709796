use Rattle.view.specs.Viewing.{cartridge_bytes}
use Rattle.view.proofs.Cases.{view_none, view_there}
use Rattle.view.proofs.record.Goals as goal

pub slice_bounds-result-end : goal.slice_bounds-result-end
unfolding cartridge_bytes
slice_bounds-result-end c = c.in-Some.ensures.2

pub returns-in-Some : goal.returns-in-Some
unfolding cartridge_bytes
returns-in-Some c =
    let (has, start, fit) = c.in-Some.ensures in
    view_there c.args.strip c.args.n c.args.at has _ start

pub returns-in-None : goal.returns-in-None
returns-in-None c = view_none c.args.strip c.args.n c.args.at c.in-None.ensures
