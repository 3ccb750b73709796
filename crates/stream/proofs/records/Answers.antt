use mathlib.Core.Path.{◌∙◌}
use Rattle.sheet.proofs.Shapes.{positions-all}
use Rattle.stream.proofs.Agreeing.{agreed_terms, one_refused, counted_terms}
use Rattle.stream.proofs.records.Goals as goal

pub returns-in-Ok : goal.returns-in-Ok
returns-in-Ok c =
    let A = c.args in
    let a = agreed_terms A.sheet.now A.choice.now c.in-Ok.t c.in-Ok.ensures in
    counted_terms A.sheet.now A.choice.now A.input.now c.in-Ok.t a _ (c.size.ensures ∙ positions-all _ a.small) _ c.count.ensures

pub returns-in-Err : goal.returns-in-Err
returns-in-Err c = one_refused c.args.sheet.now c.args.choice.now c.args.input.now c.in-Err.field-0 c.in-Err.ensures
