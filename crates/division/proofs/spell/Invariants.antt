use mathlib.Core.Path.{◌≡◌}
use mathlib.Core.List.{map}
use lib.ListN.{length, take}
use Rattle.bits.specs.Vectors.{bit}
use Rattle.division.specs.Division.{to_bits}
use Rattle.division.proofs.spell.Given as goal

abbrev pub invariant-loop-i : goal.invariant-loop-i
invariant-loop-i l = take l.i l.out ≡ take l.i (map bit (to_bits (length l.initial.out) l.s))
