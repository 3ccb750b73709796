use Rattle.std.proofs.Common.{arith}
use Rattle.bits.proofs.Writing.{xor_next, xor_all}
use Rattle.bits.proofs.rows.xor.Goals as goal

pub loop-k-preserved : goal.loop-k-preserved
loop-k-preserved c = xor_next _ _ _ _ c.requires c.loop-k.invariant (omega arith)

pub returns : goal.returns
returns c = xor_all _ _ _ c.loop-k.k c.requires c.loop-k.invariant (omega arith)
