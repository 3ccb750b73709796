use lib.ListN.{length, get_or}
use Rattle.bits.proofs.Filling.{Filling}
use Rattle.strips.specs.Placing.{lost_sym}
use Rattle.strips.proofs.place.erase.Given as goal

abbrev pub invariant-loop-j : goal.invariant-loop-j
invariant-loop-j l = Filling (λ k. lost_sym (get_or l.lost k 0)) (length l.initial.word) l.word l.j
