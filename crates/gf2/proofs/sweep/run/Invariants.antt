-- `run`: the equations from i on are to do.
use Rattle.std.proofs.Common.{◌≡◌, ◌≤◌, ◌-◌, ◌/◌, length}
use Rattle.bits.specs.Rows.{rows_of}
use Rattle.gf2.specs.Solve.{sys, steps}
use Rattle.gf2.proofs.sweep.run.Given as goal

abbrev pub invariant-loop-i : goal.invariant-loop-i
invariant-loop-i l =
    let m = length l.initial.eqs / l.w in
    (l.rank ≤ l.i) × (steps l.c (m - l.i) l.i (sys (rows_of l.w l.eqs) (rows_of l.w l.rest) l.rank) ≡ steps l.c m 0 (sys (rows_of l.w l.initial.eqs) (rows_of l.w l.initial.rest) 0))
