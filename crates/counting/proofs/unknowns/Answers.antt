use mathlib.Core.Path.{sym, ◌∙◌}
use borrow.Author.Tests.{not-true, not-false}
use Rattle.sheet.proofs.Shapes.{shaped-true, size-most}
use Rattle.counting.proofs.Lengths.{counting-none, counting-all}
use Rattle.counting.proofs.Counting.{counts-none, counts_word}
use mathlib.Core.Path.{ap}
use mathlib.Core.Bool.{not}
use Rattle.counting.proofs.unknowns.Goals as goal

pub returns-then-not-shaped : goal.returns-then-not-shaped
returns-then-not-shaped c = sym (counting-none _ _ _ c.shaped.ensures (ap not c.if-not-shaped.true))

-- nothing is erased
pub returns-then-not-some_lost : goal.returns-then-not-some_lost
returns-then-not-some_lost c =
    let A = c.args in
    let p = c.shaped.ensures in
    let q = not-false _ (ap not c.if-not-shaped.false) in
    let (_, _, d) = shaped-true _ _ _ (sym p ∙ q) in
    counts-none A.sheet.now 0 A.n A.word.now d (sym c.some_lost.ensures ∙ not-true _ (ap not c.if-not-some_lost.true))
    ∙ counts_word A.sheet.now A.word.now A.n d ∙ sym (counting-all _ _ _ p q)

pub within-requires : goal.within-requires
within-requires c =
    let (a, b, d) = shaped-true _ _ _ (sym c.shaped.ensures ∙ not-false _ (ap not c.if-not-shaped.false)) in
    (d, size-most _ _ a d)

pub returns : goal.returns
returns c =
    c.within.ensures ∙ sym (counting-all _ _ _ c.shaped.ensures (not-false _ (ap not c.if-not-shaped.false)))
