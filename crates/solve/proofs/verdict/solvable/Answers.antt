-- `solvable`: the promise of `eliminate` and its laws give the verdict.
use Rattle.std.proofs.Common.{sym, ◌∙◌, true, false}
use Rattle.solve.proofs.Verdicts.{too_narrow, no_fit, verdict}
use Rattle.solve.proofs.verdict.solvable.Goals as goal

pub returns-then-w-c : goal.returns-then-w-c
returns-then-w-c c = too_narrow _ _ _ c.if-w-c.true

pub returns-in-Some : goal.returns-in-Some
returns-in-Some c = verdict _ _ _ _ _ _ c.if-w-c.false c.eliminate.ensures _ c.in-Some.is true (sym c.if-holds.true ∙ c.holds.ensures)

pub returns-in-Some-2 : goal.returns-in-Some-2
returns-in-Some-2 c = verdict _ _ _ _ _ _ c.if-w-c.false c.eliminate.ensures _ c.in-Some.is false (sym c.if-holds.false ∙ c.holds.ensures)

pub returns-in-None : goal.returns-in-None
returns-in-None c = no_fit _ _ _ _ _ _ c.if-w-c.false c.eliminate.ensures c.in-None.is
