use Rattle.std.proofs.Common.{arith, rules, refl}
use Rattle.bits.proofs.Writing.{added-high, added-low}
use Rattle.bits.proofs.RowsWritten.{added_within-out}
use Rattle.bits.proofs.rows.add_within.Goals as goal

pub returns-then-not-apart : goal.returns-then-not-apart
returns-then-not-apart c = added_within-out _ _ _ _ (search rules)

pub returns-then-from-to : goal.returns-then-from-to
returns-then-from-to c =
    let S = c.split_at_mut-low.ensures in
    added-high _ _ _ _ _ (search rules) (search rules) _ _ _ (omega arith) S.front S.back refl (omega arith) c.xor.ensures

pub returns-else-from-to : goal.returns-else-from-to
returns-else-from-to c =
    let S = c.split_at_mut-low-else-from-to.ensures in
    added-low _ _ _ _ _ (search rules) (search rules) _ _ _ (omega arith) S.front S.back refl (omega arith) c.xor-else-from-to.ensures
