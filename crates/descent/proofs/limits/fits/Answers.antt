use mathlib.Core.Path.{sym, ◌∙◌}
use Rattle.std.proofs.Common.{arith}
use Rattle.std.proofs.lemmas.Grind.{common_steps}
use Rattle.sheet.proofs.Shapes.{shaped-true}
use Rattle.descent.specs.Descending.{fitting}
use Rattle.descent.proofs.Fitting.{roomy-true}
use Rattle.descent.proofs.limits.fits.Goals as goal
use Rattle.descent.proofs.limits.fits.Goals.{then-shaped, else-shaped}

pub filled-requires : goal.filled-requires
filled-requires c =
    elim c.if-shaped.branch [
      | then-shaped w ↦ let (a, _, b) = shaped-true _ _ _ (sym c.shaped.ensures ∙ w.if-shaped.true) in (a, b, (roomy-true _ _ _ (sym w.roomy.ensures ∙ sym w.value-is ∙ c.if-roomy.true)).0)
      | else-shaped w ↦ absurd (cc)
    ]

pub returns-then-roomy : goal.returns-then-roomy
unfolding fitting
returns-then-roomy c = grind (arith, common_steps)

pub returns-else-roomy : goal.returns-else-roomy
unfolding fitting
returns-else-roomy c = grind (arith, common_steps)
