use Rattle.std.proofs.Common.{rules, sym, subst, ◌∙◌, List}
use Rattle.std.proofs.lemmas.List.{map-append}
use Rattle.std.proofs.lemmas.Iterator.Consumers.{YieldsList-end}
use Rattle.bits.specs.Rows.{Row}
use Rattle.verdict.proofs.Cutting.{each-row}
use Rattle.lanes.specs.Inner.{Collected}
use Rattle.lanes.proofs.Collecting.{collect-led, collect-bare}
use Rattle.lanes.proofs.bad.collect.Goals as goal

pub loop-x-preserved-then-not-led : goal.loop-x-preserved-then-not-led
loop-x-preserved-then-not-led c =
    let inv = c.loop-x.invariant in (
      c.in-Some.ensures.steps.0 ∙ inv.0,
      rw map-append (collect-bare _ _ _ _ inv.1 (sym c.led.ensures ∙ c.if-not-led.true) _ c.add.ensures),
    )

pub loop-x-preserved : goal.loop-x-preserved
loop-x-preserved c =
    let inv = c.loop-x.invariant in (
      c.in-Some.ensures.steps.0 ∙ inv.0,
      rw map-append (collect-led _ _ _ _ inv.1 (sym c.led.ensures ∙ c.if-not-led.false)),
    )

pub returns : goal.returns
returns c =
    let E = c.args.eqs in
    let rows = each-row {s = c.into_iter-x-iterator.result} E.w E.words.now E.some (search rules) (search rules) in
    let all = (YieldsList-end rows c.loop-x.yielded c.loop-x.x-iterator c.loop-x.yielded_by _ _ c.in-None.is c.next.ensures.steps).0 in
    subst (λ (r : List Row). Collected E.c r c.loop-x.bad) all c.loop-x.invariant.1
