-- `gf2::eliminate`: each misfit, and the run on whole rows.
use Rattle.std.proofs.Common.{arith}
use Rattle.gf2.proofs.Glue.{misfit, fit_done}
use Rattle.gf2.proofs.Calls.{all_fit}
use Rattle.gf2.proofs.eliminate.Goals as goal
use Rattle.gf2.proofs.eliminate.Goals.{then-w-eq0-via-then-w-eq0, then-w-eq0-via-else-w-eq0+then-w-c, then-w-eq0-via-else-w-eq0+else-w-c+then-eqs-w-ne0, then-w-eq0-via-else-w-eq0+else-w-c+else-eqs-w-ne0+then-rest-w-ne0}

pub returns-then-w-eq0 : goal.returns-then-w-eq0
returns-then-w-eq0 c = let A = c.args in misfit A.c A.w A.eqs.now A.rest.now (λ n k p q. elim c.then-w-eq0.branch [
  | then-w-eq0-via-then-w-eq0 b ↦ n b.if-w-eq0.true
  | then-w-eq0-via-else-w-eq0+then-w-c b ↦ omega arith
  | then-w-eq0-via-else-w-eq0+else-w-c+then-eqs-w-ne0 b ↦ b.if-eqs-w-ne0.true p
  | then-w-eq0-via-else-w-eq0+else-w-c+else-eqs-w-ne0+then-rest-w-ne0 b ↦ b.if-rest-w-ne0.true q
])

pub returns : goal.returns
returns c =
    let f = all_fit _ _ _ _ c.if-w-eq0.false c.if-w-c.false c.if-eqs-w-ne0.false c.if-rest-w-ne0.false in
    fit_done _ _ _ _ _ _ _ f c.run.auto.eqs c.run.auto.rest c.run.ensures
