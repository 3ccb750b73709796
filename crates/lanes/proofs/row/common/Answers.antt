use Rattle.lanes.proofs.Constants.{common_one, common-zero}
use Rattle.lanes.proofs.row.common.Goals as goal

pub returns-then-x-c-eq1 : goal.returns-then-x-c-eq1
returns-then-x-c-eq1 c = common_one _ _ c.if-x-c-eq1.true

pub returns-else-x-c-eq1 : goal.returns-else-x-c-eq1
returns-else-x-c-eq1 c = common-zero _ _ c.if-x-c-eq1.false
