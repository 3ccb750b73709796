use Rattle.checks.specs.Registers.{remainder, ColumnsUpTo}
use Rattle.checks.proofs.register.Ring.columns.Given as goal

abbrev pub invariant-loop-k : goal.invariant-loop-k
invariant-loop-k g l = ColumnsUpTo g.row.N l.w (remainder g.row.N l.sheet l.size l.us l.w l.c) l.k l.out
