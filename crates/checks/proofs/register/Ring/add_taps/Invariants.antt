use mathlib.Core.Path.{◌≡◌}
use lib.ListN.{drop}
use Rattle.checks.specs.Registers.{turned}
use Rattle.checks.proofs.Turning.{plus_all}
use Rattle.checks.proofs.register.Ring.add_taps.Given as goal

abbrev pub invariant-loop-j : goal.invariant-loop-j
invariant-loop-j g l =
    plus_all (turned l.self.words l.self.first) (drop l.j-index l.places) l.o ≡ plus_all (turned l.initial.self.words l.initial.self.first) l.places l.o
