use Rattle.std.proofs.Common.{◌≡◌}
use Rattle.intake.proofs.turns.Given as goal

abbrev pub invariant-loop : goal.invariant-loop
invariant-loop g l = goal.F-IsAlwaysCallable g l.turn × (l.made ≡ l.counter)
