use mathlib.Core.Path.{refl, ◌∙◌}
use Rattle.descent.proofs.Slots.{settle_owed}
use Rattle.descent.proofs.block.settle_one.Goals as goal

pub returns-in-Owed : goal.returns-in-Owed
returns-in-Owed c =
    let P = c.requires in
    settle_owed _ _ _ _ _ (P.0.alike ∙ P.0.marked) P.0.marked P.1 _ refl c.in-Owed.is _ c.add.ensures
