use Rattle.std.proofs.Common.{◌≡◌, ℕ, ◌<◌, ◌≤◌, ◌/◌, length, arith, ◌∙◌}
use Rattle.std.specs.Fn.{FnReturnsAt}
use Rattle.bits.specs.Rows.{row}
use Rattle.verdict.proofs.Cutting.{cut-row, cut-rest, cut-in, cut-end, written-more}
use Rattle.verdict.proofs.rows.Rows.write.Goals as goal

pub loop-j-preserved : goal.loop-j-preserved
loop-j-preserved g c =
    let s = c.in-Some.ensures.steps in
    let inv = c.loop-j.invariant in
    let A = c.args in
    let lt : c.loop-j.j < length A.self.now.words.now / A.self.now.w = cut-in _ _ _ _ _ _ inv.1 s.1.0 (s.1.1 ∙ inv.0) A.self.now.some in (
      s.0 ∙ inv.0,
      cut-rest _ _ _ _ _ _ inv.1 s.1.0 (s.1.1 ∙ inv.0),
      written-more (λ (k y : ℕ). FnReturnsAt g.F.Fn A.byte (row A.self.now.w A.self.now.words.now k) y) c.loop-j.out c.loop-j.j _ (omega (arith, c.len.ensures, c.if-out-len.false)) inv.2
          (record { shown = c.in-Some.x; shows = cut-row _ _ _ _ _ _ inv.1 s.1.0 (s.1.1 ∙ inv.0); says = record { met = c.byte.ensures } }),
    )

pub returns : goal.returns
returns g c =
    let s = c.in-None.ensures.steps in
    let A = c.args in
    let n : length A.self.now.words.now / A.self.now.w ≤ c.loop-j.j = cut-end _ _ _ _ c.loop-j.invariant.1 (omega (arith, s.1.0, c.loop-j.invariant.0)) in
    record {
      wrote = λ e j h. c.loop-j.invariant.2 j (omega (arith, e));
      kept = λ d. absurd {A = c.loop-j.out ≡ A.out.now} (d (omega (arith, c.len.ensures, c.if-out-len.false)));
    }
