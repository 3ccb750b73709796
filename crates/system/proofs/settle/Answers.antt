use mathlib.Core.Path.{◌≡◌}
use native.Mathlib.Omega.{arith}
use Rattle.std.specs.Prelude.{Some, None}
use Rattle.system.proofs.LastStep.{never_misfit, last}
use Rattle.system.proofs.settle.Goals as goal

pub returns-in_err-rank : goal.returns-in_err-rank
returns-in_err-rank c =
    let A = c.args in
    let C = c.check_rows in
    let E = c.eliminate in
    let o : E.result ≡ None = grind arith in
    never_misfit A.t A.sheet.now A.found.m A.vals.now A.us.now A.eqs.now
    c.requires _ C.new.eqs C.ensures E.new.eqs E.new.rest E.result E.ensures o

pub returns : goal.returns
returns c =
    let A = c.args in
    let C = c.check_rows in
    let E = c.eliminate in
    let o : E.result ≡ Some c.in_ok-rank.rank = grind arith in
    last A.t A.sheet.now A.found.m A.vals.now A.us.now A.eqs.now
    c.requires _ C.new.eqs C.ensures E.new.eqs E.new.rest E.result E.ensures A.found.g _ o E.auto.eqs E.auto.rest
