use native.Mathlib.Omega.{arith}
use Rattle.descent.proofs.Marking.{mark_turn, other_default}
use Rattle.descent.proofs.word.mark.Goals as goal

pub loop-j-preserved : goal.loop-j-preserved
loop-j-preserved c = mark_turn (other_default c.args.word.now c.loop-j.j c.loop-j-test.true) c.mark_of.ensures (omega arith) c.loop-j.invariant
