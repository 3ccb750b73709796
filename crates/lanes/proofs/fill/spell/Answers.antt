use Rattle.std.proofs.Common.{◌∙◌}
use Rattle.lanes.proofs.Spelling.{spell_next}
use Rattle.lanes.proofs.fill.spell.Goals as goal

pub loop-k-preserved : goal.loop-k-preserved
loop-k-preserved c = spell_next c.loop-k.invariant c.word.result c.word.ensures _ (c.copy_from_slice.ensures.after ∙ c.to_le_bytes.ensures)
