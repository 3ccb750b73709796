use mathlib.Core.Path.{ap, ◌∙◌}
use mir.Val.{bool_byte}
use Rattle.counting.proofs.Counting.{one_frozen, one_free}
use Rattle.counting.proofs.one.Goals as goal
use Rattle.counting.proofs.one.Goals.{then-free, else-free}

pub returns : goal.returns
returns c =
    let e = c.is_free-free.ensures in
    elim c.if-free.branch [
      | then-free w ↦ c.from.ensures ∙ ap bool_byte w.from-is ∙ one_free _ _ _ e w.if-free.true
      | else-free w ↦ c.from.ensures ∙ ap bool_byte (w.from-is ∙ w.if-free.false) ∙ one_frozen _ _ _ e w.if-free.false
    ]
