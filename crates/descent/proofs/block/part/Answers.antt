use mathlib.Core.Path.{refl, sym, ◌∙◌}
use Rattle.descent.proofs.Slots.{part_turn, part_end, halves_added}
use Rattle.descent.proofs.block.part.Goals as goal

pub loop-j-preserved : goal.loop-j-preserved
loop-j-preserved c = part_turn c.loop-j.invariant c.part_one.ensures

pub returns : goal.returns
returns c =
    let P = c.requires in
    let R = c.loop-j.auto.right in
    part_end c.loop-j-test.false (halves_added _ _ _ _ _ _ (P.0.alike ∙ sym R) (R ∙ P.0.marked) refl c.add.ensures) c.loop-j.invariant
