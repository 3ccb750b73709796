use mathlib.Core.Path.{sym, ◌∙◌}
use native.Mathlib.Omega.{arith}
use Rattle.division.proofs.Division.{known, length-small}
use Rattle.division.proofs.Checking.{fitting-is, fitting-other, fitting-unlisted, appending-is, appending-not}
use Rattle.division.proofs.append.Goals as goal

pub overflow_add-bits : goal.overflow_add-bits
overflow_add-bits c = omega (arith, length-small _ c.in-Some.check.known, c.well_formed)

pub returns-then-out-bits : goal.returns-then-out-bits
returns-then-out-bits c =
    let e = c.in-Some.ensures in
    rw e at c.attach.ensures ∙ sym (appending-is _ _ _ (fitting-is _ _ _ (known _ (rw e at c.in-Some.check.known)) (omega arith)))

pub returns-else-out-bits : goal.returns-else-out-bits
returns-else-out-bits c = sym (appending-not _ _ _ (fitting-other _ _ _ (rw c.in-Some.ensures at c.in-Some.check.known) (omega arith)))

pub returns-in_default : goal.returns-in_default
returns-in_default c = sym (appending-not _ _ _ (fitting-unlisted _ _ _ c.in_default.ensures))
