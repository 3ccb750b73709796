-- `run`: the equations from i on are to do.
use Rattle.std.proofs.Common.{◌≡◌, ℕ, ◌+◌, ◌/◌, length, ap, ◌∙◌, arith, add-zero}
use Rattle.bits.specs.Vectors.{bit}
use Rattle.bits.specs.Rows.{rows_of}
use Rattle.gf2.specs.Solve.{sys}
use Rattle.gf2.proofs.Glue.{steps_turn, all-steps}
use Rattle.gf2.proofs.sweep.run.Goals as goal
use Rattle.gf2.proofs.sweep.run.Goals.{then-pivot, else-pivot}

pub loop-i-preserved : goal.loop-i-preserved
loop-i-preserved c =
    let A = c.args in
    let L = c.loop-i in
    let P = c.pivot in
    let more : c.if-pivot.rank ≡ L.rank + bit P.result =
    elim c.if-pivot.branch [ then-pivot b ↦ rw b.if-pivot.true b.rank-is | else-pivot b ↦ rw (b.if-pivot.false, add-zero) b.rank-is ] in
    let s = λ (n : ℕ). sys (rows_of A.w P.new.eqs) (rows_of A.w P.new.rest) n in (
      elim c.if-pivot.branch [ then-pivot b ↦ omega arith | else-pivot b ↦ omega arith ],
      steps_turn A.c (length A.eqs.now / A.w) L.i _ (s c.if-pivot.rank) c.loop-i-test.true (ap s more ∙ P.ensures L.rank) ∙ L.invariant.1,
    )

pub returns : goal.returns
returns c = all-steps _ _ _ _ _ c.loop-i.i (omega arith) c.loop-i.invariant.1
