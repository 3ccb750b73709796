use Rattle.checks.specs.Registers.{turned}
use Rattle.checks.proofs.Shifting.{Dividing}
use Rattle.checks.proofs.register.Ring.divide.Given as goal

abbrev pub invariant-loop-i : goal.invariant-loop-i
invariant-loop-i g l = Dividing g.row.N l.sheet l.size l.us l.w l.c l.k (turned l.ring.words l.ring.first) l.i
