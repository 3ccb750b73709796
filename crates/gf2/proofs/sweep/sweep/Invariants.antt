-- `sweep`: the rows before `at` are swept, the others are to do.
use Rattle.std.proofs.Common.{◌≡◌, ◌-◌, ◌*◌, length}
use Rattle.gf2.specs.Solve.{clear_at}
use Rattle.gf2.specs.Inner.{over}
use Rattle.gf2.proofs.Walk.{togo}
use Rattle.gf2.proofs.sweep.sweep.Given as goal

abbrev pub invariant-loop : goal.invariant-loop
invariant-loop l =
    let w = length l.row in
    (l.at ≡ l.counter * w) × (togo w (l.n - l.counter) (clear_at l.k l.j l.row) l.dst l.at ≡ over w l.n (clear_at l.k l.j l.row) l.initial.dst)
