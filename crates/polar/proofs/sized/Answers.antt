use mathlib.Core.Path.{◌∙◌}
use native.Mathlib.Omega.{arith}
use borrow.Author.Tests.{le-ltb}
use Rattle.polar.proofs.Transforming.{too_long}
use Rattle.polar.proofs.sized.Goals as goal

pub returns-else-n-lt64 : goal.returns-else-n-lt64
returns-else-n-lt64 c = le-ltb _ _ c.if-n-lt64.false ∙ too_long c.args.len c.args.n (omega (arith, c.well_formed)) c.if-n-lt64.false
