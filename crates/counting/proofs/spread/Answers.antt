use mathlib.Core.Path.{ap, ◌∙◌}
use Rattle.meaning.specs.Codewords.{erased}
use Rattle.counting.proofs.Counting.{either_max, both_min, spread_more}
use Rattle.counting.proofs.spread.Goals as goal

pub loop-i-preserved : goal.loop-i-preserved
loop-i-preserved c =
    let i = c.loop-i in
    spread_more _ _ _ _ _ _ _ c.loop-i-test.true c.requires i.auto.left i.auto.right i.invariant
    (ap erased c.max-larger.ensures ∙ either_max _ _) (ap erased c.min.ensures ∙ both_min _ _)
