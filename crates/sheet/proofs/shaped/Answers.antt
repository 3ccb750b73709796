use mathlib.Core.Path.{sym}
use Rattle.sheet.proofs.Shapes.{shaped_short, shaped_word}
use mathlib.Core.Path.{ap}
use mathlib.Core.Bool.{not}
use Rattle.sheet.proofs.shaped.Goals as goal

pub returns-then-not-recorded : goal.returns-then-not-recorded
returns-then-not-recorded c = sym (shaped_short _ _ _ c.recorded.ensures (ap not c.if-not-recorded.true))

pub returns : goal.returns
returns c = sym (shaped_word _ _ _ c.recorded.ensures _ (ap not c.if-not-recorded.false) c.size.ensures)
