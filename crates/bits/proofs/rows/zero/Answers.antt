use Rattle.std.proofs.Common.{rules}
use Rattle.bits.proofs.Writing.{zeroed-by}
use Rattle.bits.proofs.RowsWritten.{zeroed-out}
use Rattle.bits.proofs.rows.zero.Goals as goal

pub returns-then-lies : goal.returns-then-lies
returns-then-lies c = zeroed-by _ _ _ _ (search rules) (search rules)

pub returns-else-lies : goal.returns-else-lies
returns-else-lies c = zeroed-out _ _ _ (search rules)
