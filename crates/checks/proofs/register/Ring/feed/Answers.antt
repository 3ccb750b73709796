use mathlib.Core.Path.{◌≡◌}
use native.Mathlib.Omega.{arith}
use lib.ListN.{length}
use Rattle.checks.proofs.Turning.{fed_ring}
use Rattle.checks.proofs.register.Ring.feed.Goals as goal

pub returns : goal.returns
returns g c =
    let R = c.args.self.now in
    let l : length R.words ≡ g.row.N = omega arith in
    fed_ring R.words R.first c.args.b _ g.row.N _ l R.inside c.slot-self.ensures.is c.add_taps.ensures
