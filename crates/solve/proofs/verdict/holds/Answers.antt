-- `holds`: the rows that the iterator has left are to scan.
use Rattle.std.proofs.Common.{sym, ◌∙◌, arith}
use mathlib.Core.Logic.{inl, inr}
use Rattle.solve.proofs.Scan.{row_bad, row_good, rows_none}
use Rattle.solve.proofs.verdict.holds.Goals as goal
use Rattle.solve.proofs.verdict.holds.Goals.{else-not-led-via-then-not-led+else-row-c-eq1, else-not-led-via-else-not-led}

pub returns-then-row-c-eq1 : goal.returns-then-row-c-eq1
returns-then-row-c-eq1 c =
    let I = c.loop-row.invariant in
    let S = c.in-Some.ensures.steps.1 in
    sym (row_bad _ _ _ _ _ c.requires S.0 (S.1 ∙ I.0) (sym c.led.ensures ∙ c.if-not-led.true) c.if-row-c-eq1.true) ∙ I.1

pub loop-row-preserved : goal.loop-row-preserved
loop-row-preserved c =
    let I = c.loop-row.invariant in
    let S = c.in-Some.ensures.steps in (
      S.0 ∙ I.0,
      row_good _ _ _ _ _ c.requires S.1.0 (S.1.1 ∙ I.0) (elim c.else-not-led.branch [
        | else-not-led-via-then-not-led+else-row-c-eq1 b ↦ inr b.if-row-c-eq1.false
        | else-not-led-via-else-not-led b ↦ inl (sym c.led.ensures ∙ b.if-not-led.false)
      ]) ∙ I.1,
    )

pub returns : goal.returns
returns c =
    let I = c.loop-row.invariant in
    let S = c.in-None.ensures.steps.1 in
    sym (rows_none _ _ _ (omega (arith, S.0))) ∙ I.1
