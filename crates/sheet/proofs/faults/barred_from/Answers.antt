use mathlib.Core.Path.{sym, ◌∙◌}
use Rattle.sheet.specs.Records.{barred}
use Rattle.sheet.proofs.faults.barred_from.Goals as goal

pub returns-then-is_free : goal.returns-then-is_free
unfolding barred
returns-then-is_free c = rw (sym c.is_free.ensures ∙ c.if-is_free.true)

pub returns-else-is_free : goal.returns-else-is_free
unfolding barred
returns-else-is_free c = rw (sym c.is_free.ensures ∙ c.if-is_free.false)
