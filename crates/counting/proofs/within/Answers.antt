use mathlib.Core.Path.{ap, ◌∙◌}
use Rattle.counting.specs.Halves.{open_frees}
use Rattle.counting.proofs.Counting.{counts_word}
use Rattle.counting.proofs.within.Goals as goal

pub returns : goal.returns
returns c =
    let A = c.args in
    c.block.ensures ∙ ap (open_frees A.sheet.now 0 A.n) c.copy_from_slice.ensures.after ∙ counts_word A.sheet.now A.word.now A.n c.requires.0
