use mathlib.Core.Path.{sym, ◌∙◌}
use borrow.Author.Tests.{not-false}
use Rattle.meaning.specs.Limits.{largest_n}
use Rattle.descent.specs.Descending.{widest}
use Rattle.descent.proofs.Fitting.{whole-fits}
use Rattle.sheet.proofs.Shapes.{positions-all, recorded-true}
use Rattle.checks.proofs.Testing.{fits-recorded, fits-length, fits-spaced, fits-rows, spaced-true}
use mathlib.Core.Path.{ap}
use mathlib.Core.Bool.{not}
use Rattle.checks.proofs.limits.fits.Goals as goal

pub returns-then-not-recorded : goal.returns-then-not-recorded
returns-then-not-recorded c = sym (fits-recorded _ _ _ _ _ _ _ _ c.recorded.ensures (ap not c.if-not-recorded.true))

pub returns-then-not-is_check_length : goal.returns-then-not-is_check_length
returns-then-not-is_check_length c =
    let a = sym c.recorded.ensures ∙ not-false _ (ap not c.if-not-recorded.false) in
    sym (fits-length _ _ _ _ _ _ _ _ a c.is_check_length.ensures (ap not c.if-not-is_check_length.true))

pub returns-then-not-spaced : goal.returns-then-not-spaced
returns-then-not-spaced c =
    let a = sym c.recorded.ensures ∙ not-false _ (ap not c.if-not-recorded.false) in
    let b = sym c.is_check_length.ensures ∙ not-false _ (ap not c.if-not-is_check_length.false) in
    sym (fits-spaced _ _ _ _ _ _ _ _ a b c.spaced.ensures (ap not c.if-not-spaced.true))

pub overflow_mul-result : goal.overflow_mul-result
unfolding largest_n widest
overflow_mul-result c =
    let a = sym c.recorded.ensures ∙ not-false _ (ap not c.if-not-recorded.false) in
    let d = sym c.spaced.ensures ∙ not-false _ (ap not c.if-not-spaced.false) in
    let small = (recorded-true _ _ a).0 in
    whole-fits _ _ _ small (spaced-true _ _ _ _ _ d).0 (c.size.ensures ∙ positions-all _ small)

pub returns : goal.returns
returns c =
    let a = sym c.recorded.ensures ∙ not-false _ (ap not c.if-not-recorded.false) in
    let b = sym c.is_check_length.ensures ∙ not-false _ (ap not c.if-not-is_check_length.false) in
    let d = sym c.spaced.ensures ∙ not-false _ (ap not c.if-not-spaced.false) in
    sym (fits-rows _ _ _ _ _ _ _ _ _ a b d c.size.ensures)
