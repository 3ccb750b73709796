use Rattle.show.proofs.Writing.{within}
use Rattle.show.proofs.Lines.{lined}
use native.Mathlib.Omega.{arith}
use Rattle.show.proofs.line.line.Goals as goal

pub returns : goal.returns
returns c =
    let n = c.of.ensures in
    let w = c.said-k.ensures in
    let p = c.put.ensures in
    let q = lined c.args.answer.now n.code n.place n.g n.m n.d w.0 p in
    ((within q).0, omega (arith, p.ends, p.long, w.1), (within q).1)
