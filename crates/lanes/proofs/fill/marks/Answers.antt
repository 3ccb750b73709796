use Rattle.std.proofs.Common.{◌≡◌, ap, ◌∙◌, ℕ, ◌/◌, ◌<◌, ◌≤◌, length, rules, arith}
use Rattle.bits.specs.Vectors.{bit}
use Rattle.bits.specs.Rows.{row}
use Rattle.verdict.proofs.Cutting.{cut-row, cut-rest, cut-in, cut-end, written-more}
use Rattle.verdict.proofs.Assembling.{strip}
use Rattle.lanes.specs.Lanes.{row_mark}
use Rattle.lanes.proofs.fill.marks.Goals as goal

pub loop-j-preserved : goal.loop-j-preserved
loop-j-preserved c =
    let V = c.args.vals in
    let L = c.loop-j in
    let s = c.in-Some.ensures.steps in
    let inv = L.invariant in
    let lt : L.j < length V.words.now / V.w = cut-in _ _ _ _ _ _ inv.1 s.1.0 (s.1.1 ∙ inv.0) V.some in
    let x : c.in-Some.x.now ≡ row V.w V.words.now L.j = cut-row _ _ _ _ _ _ inv.1 s.1.0 (s.1.1 ∙ inv.0) in (
      s.0 ∙ inv.0,
      cut-rest _ _ _ _ _ _ inv.1 s.1.0 (s.1.1 ∙ inv.0),
      written-more (λ (k y : ℕ). y ≡ row_mark V.c (row V.w V.words.now k)) L.out L.j _ (omega arith) inv.2 (c.from.ensures ∙ ap bit c.led.ensures ∙ ap (row_mark V.c) x),
    )

pub returns : goal.returns
returns c =
    let V = c.args.vals in
    let L = c.loop-j in
    let s = c.in-None.ensures.steps in
    let n : length V.words.now / V.w ≤ L.j = cut-end _ _ _ _ L.invariant.1 (omega (arith, s.1.0, L.invariant.0)) in
    strip V.c V.w V.words.now (row_mark V.c) _ (search rules) (λ j h. L.invariant.2 j (omega arith))
