use lib.ListN.{length}
use Rattle.codec.proofs.Placing.{Placing}
use Rattle.codec.proofs.rules.place_bits.Given as goal

abbrev pub invariant-loop-i : goal.invariant-loop-i
invariant-loop-i l = Placing l.sheet (length l.initial.u) l.free l.u l.values.0 l.bits.rest.now l.i
