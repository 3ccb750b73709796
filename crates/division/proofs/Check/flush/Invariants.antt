use Prim.Native.Nat.{◌^◌, ◌<◌}
use Rattle.division.proofs.Division.{Flushed}
use Rattle.division.proofs.Check.flush.Given as goal

abbrev pub invariant-loop-i : goal.invariant-loop-i
invariant-loop-i l = (l.s < 2 ^ l.self.length) × Flushed l.self.length l.start l.i l.s
