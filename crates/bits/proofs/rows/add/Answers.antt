use Rattle.std.proofs.Common.{rules}
use Rattle.bits.proofs.Writing.{added-by}
use Rattle.bits.proofs.RowsWritten.{added-out}
use Rattle.bits.proofs.rows.add.Goals as goal
use Rattle.bits.proofs.rows.add.Goals.{else-lies-via-then-lies+else-lies-2, else-lies-via-else-lies}

pub returns-then-lies-2 : goal.returns-then-lies-2
returns-then-lies-2 c = added-by _ _ _ _ (search rules) _ _ (search rules) c.xor.ensures

pub returns-else-lies : goal.returns-else-lies
returns-else-lies c = added-out _ _ _ _ _ (λ h k. elim c.else-lies.branch [ else-lies-via-then-lies+else-lies-2 w ↦ search rules | else-lies-via-else-lies w ↦ search rules ])
