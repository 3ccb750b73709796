use native.Mathlib.Omega.{arith}
use Rattle.sheet.proofs.Joining.{word_here}
use Rattle.ruling.proofs.Rules.{gap_all, gap_some}
use Rattle.ruling.proofs.Record.unnamed_below.Goals as goal

pub returns-then-m-eq0 : goal.returns-then-m-eq0
returns-then-m-eq0 c =
    let A = c.args in
    gap_all _ _ _ _ c.requires.0 (word_here _ _ _ _ (omega (arith, A.self.few)) A.self.there c.mask_word.ensures) c.if-m-eq0.true

pub returns : goal.returns
returns c =
    let A = c.args in
    gap_some _ _ _ _ c.requires.0 (word_here _ _ _ _ (omega (arith, A.self.few)) A.self.there c.mask_word.ensures) c.if-m-eq0.false
