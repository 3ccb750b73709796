-- `xor`: the words up to k are added, the others as they were.
use Rattle.std.proofs.Common.{◌≡◌, ◌++◌, take, drop}
use Rattle.bits.specs.Rows.{◌⊻◌}
use Rattle.bits.proofs.rows.xor.Given as goal

abbrev pub invariant-loop-k : goal.invariant-loop-k
invariant-loop-k l = l.x ≡ take l.k (l.initial.x ⊻ l.y) ++ drop l.k l.initial.x
