use mathlib.Core.Path.{refl, sym, ◌∙◌}
use Rattle.descent.proofs.Slots.{part_owed}
use Rattle.descent.proofs.block.part_one.Goals as goal

pub returns-then-is_known-2 : goal.returns-then-is_known-2
returns-then-is_known-2 c =
    let P = c.requires in
    part_owed _ _ _ _ _ (P.0.alike ∙ P.0.marked) P.0.marked P.2 _ _ P.1 refl (sym c.is_known-else-is_known.ensures ∙ c.if-is_known-2.true) (sym c.is_known.ensures ∙ c.if-is_known.false) _ c.copy.ensures
