use Rattle.bits.proofs.Joining.{eight_there}
use Rattle.strips.proofs.Loops.{put_turn}
use native.Mathlib.Omega.{arith}
use Rattle.strips.proofs.place.put.Goals as goal

pub loop-k-preserved : goal.loop-k-preserved
loop-k-preserved c =
    let h = c.loop-k-test.true in
    put_turn c.loop-k.invariant h c.requires.0 (eight_there _ _ _ (omega (arith, h, c.requires.1)) c.eight.ensures)
