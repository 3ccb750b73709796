use Rattle.show.specs.Line.{verdict}
use Rattle.show.proofs.Writing.{◌then◌}
use native.Mathlib.Omega.{arith}
use Rattle.show.proofs.line.Numbers.counts.Goals as goal

pub returns : goal.returns
unfolding verdict
returns c =
    let p = c.put-a.ensures in
    let q = c.count-b.ensures in
    let r = c.count-c.ensures in
    let s = c.count.ensures in
    let w = p then q.0 then r.0 then s.0 in
    (w, omega (arith, p.ends, q.1, r.1, s.1, w.long, c.requires))
