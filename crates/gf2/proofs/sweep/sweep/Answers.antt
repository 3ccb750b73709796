use Rattle.std.proofs.Common.{length, sym, ◌∙◌, arith}
use mathlib.Core.Logic.{inl, inr}
use Rattle.bits.proofs.RowLaws.{row_fit}
use Rattle.gf2.proofs.Walk.{added_row, sweep_next, sweep_end}
use Rattle.gf2.proofs.sweep.sweep.Goals as goal
use Rattle.gf2.proofs.sweep.sweep.Goals.{then-dst-at-eq1, else-dst-at-eq1}

pub loop-preserved : goal.loop-preserved
loop-preserved c =
    let A = c.args in
    let L = c.loop in
    let r = row_fit L.counter A.n (length A.row.now) c.loop-test.true in (
      omega arith,
      sweep_next L.dst A.row.now A.n L.counter L.at A.k A.j c.if-dst-at-eq1.dst (omega arith) (omega arith) (omega arith) (elim c.if-dst-at-eq1.branch [
        | then-dst-at-eq1 b ↦ inl (b.if-dst-at-eq1.true, b.dst-is ∙ b.add.ensures ∙ added_row _ _ _ (omega arith))
        | else-dst-at-eq1 b ↦ inr (b.if-dst-at-eq1.false, b.dst-is)
      ]) ∙ L.invariant.1,
    )

pub returns : goal.returns
returns c = sym (sweep_end _ _ _ c.loop.counter _ _ _ (omega arith)) ∙ c.loop.invariant.1
