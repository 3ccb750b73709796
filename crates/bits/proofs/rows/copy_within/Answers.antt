use Rattle.std.proofs.Common.{rules}
use Rattle.bits.proofs.Writing.{copied_within-by}
use Rattle.bits.proofs.RowsWritten.{copied_within-out}
use Rattle.bits.proofs.rows.copy_within.Goals as goal

pub returns-then-apart : goal.returns-then-apart
returns-then-apart c = let a = c.apart.ensures.0 c.if-apart.true in copied_within-by _ _ _ _ _ a.0 a.1 a.2 c.copy_within.ensures.after

pub returns-else-apart : goal.returns-else-apart
returns-else-apart c = copied_within-out _ _ _ _ (search rules)
