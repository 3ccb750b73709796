use mathlib.Core.Path.{◌≡◌}
use Rattle.bits.specs.Vectors.{bit}
use Rattle.meaning.specs.Sheet.{names}
use Rattle.codec.proofs.Packing.{odd_first}
use Rattle.codec.proofs.rules.Values.odd_named.Given as goal

abbrev pub invariant-loop-k : goal.invariant-loop-k
invariant-loop-k l = l.o ≡ bit (odd_first (names l.sheet l.i) l.self.0 l.k)
