use Rattle.show.proofs.Writing.{◌then◌}
use native.Mathlib.Omega.{arith}
use Rattle.show.proofs.line.count.Goals as goal

pub returns : goal.returns
returns c =
    let p = c.put-from.ensures in
    let q = c.put_number.ensures in
    (p then q.0, omega (arith, p.ends, q.1))
