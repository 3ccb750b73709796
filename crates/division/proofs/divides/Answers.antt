use mathlib.Core.Path.{sym}
use Rattle.division.proofs.Checking.{dividing-not, fed-tells}
use Rattle.division.proofs.divides.Goals as goal

pub returns-in-Some : goal.returns-in-Some
returns-in-Some c = let e = c.in-Some.ensures in fed-tells _ _ _ (rw e at c.in-Some.check.known) (rw e at c.feed.ensures)

pub returns-in-None : goal.returns-in-None
returns-in-None c = sym (dividing-not _ _ c.in-None.ensures)
