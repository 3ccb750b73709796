use native.Mathlib.Omega.{arith}
use Rattle.std.proofs.Common.{rules}
use Rattle.ruling.proofs.Rules.{sum-start, sum_skip, sum-next}
use Rattle.ruling.proofs.Record.named_row.Goals as goal

pub loop-j-init : goal.loop-j-init
loop-j-init c = (omega arith, sum-start _ _ _ _ _ (c.fill.ensures.after (λ y p. search rules)))

pub loop-j-preserved-then-j-k : goal.loop-j-preserved-then-j-k
loop-j-preserved-then-j-k c =
    let A = c.args in
    let inv = c.loop-j.invariant in
    let gap = c.unnamed_below-k.ensures in
    (omega arith, sum_skip _ _ _ _ c.requires A.self.few _ _ inv.0 (omega (arith, gap.within)) gap.unnamed _ inv.1)

pub loop-j-preserved : goal.loop-j-preserved
loop-j-preserved c =
    let A = c.args in
    let inv = c.loop-j.invariant in
    let gap = c.unnamed_below-k.ensures in
    (omega arith, sum-next _ _ _ _ c.requires A.self.few _ _ inv.0 (omega (arith, gap.within)) gap c.if-j-k.false _ inv.1 _ c.add.ensures)
