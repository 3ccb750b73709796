use Prim.Native.Nat.{◌≤◌}
use Rattle.ruling.proofs.Rules.{Sum}
use Rattle.ruling.proofs.Record.named_row.Given as goal

abbrev pub invariant-loop-j : goal.invariant-loop-j
invariant-loop-j l = (l.j ≤ l.self.at) × Sum l.w l.self.at l.j l.us l.self.sheet.now l.row

abbrev pub decreases-loop-j : goal.decreases-loop-j
decreases-loop-j l = l.j
