-- A length divided by the size of a piece, rounded up.
use Rattle.std.proofs.Common.{◌∙◌}
use Rattle.meaning.proofs.Cutting.{none_sized, ceil_rounded}
use Rattle.answers.proofs.pieces.count.Goals as goal

pub returns-then-size-eq0 : goal.returns-then-size-eq0
returns-then-size-eq0 c = none_sized _ _ c.if-size-eq0.true

pub returns-else-size-eq0 : goal.returns-else-size-eq0
returns-else-size-eq0 c = c.div_ceil.ensures ∙ ceil_rounded _ _ c.if-size-eq0.false
