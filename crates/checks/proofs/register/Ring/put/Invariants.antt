use Rattle.checks.specs.Registers.{turned}
use Rattle.checks.proofs.Columns.{Putting}
use Rattle.checks.proofs.register.Ring.put.Given as goal

abbrev pub invariant-loop-j : goal.invariant-loop-j
invariant-loop-j g l = Putting l.w l.k (turned l.self.words l.self.first) l.initial.out l.out l.j
