use Rattle.show.specs.Line.{between}
use Rattle.show.proofs.Writing.{◌then◌}
use native.Mathlib.Omega.{arith}
use Rattle.show.proofs.line.with_number.Goals as goal

pub returns : goal.returns
unfolding between
returns c =
    let p = c.put-a.ensures in
    let q = c.put_number-b.ensures in
    let r = c.put.ensures in
    let w = p then q.0 then r in
    (w, omega (arith, p.ends, q.1, r.ends, w.long, c.requires))
