use Rattle.std.proofs.lemmas.Result.{err_from_is_err_and}
use Rattle.system.proofs.Promise.{stopped, settling, solved_as}
use Rattle.system.proofs.run.Goals as goal

pub returns-in_err-found : goal.returns-in_err-found
returns-in_err-found c =
    let A = c.args in
    let D = c.descend in
    let p = err_from_is_err_and c.from_residual.result c.from_residual.ensures.1 in
    rw (p.1, p.2) (stopped A.t.n A.t.r A.t.most A.t.coeffs A.t.words A.sheet.now A.word.now A.vals.now A.us.now A.eqs.now
    c.requires
    D.result D.new.vals D.new.us D.new.eqs D.ensures
    _ c.in_err-found.was)

pub settle-requires : goal.settle-requires
settle-requires c =
    let A = c.args in
    let D = c.descend in
    settling A.t.n A.t.r A.t.most A.t.coeffs A.t.words A.sheet.now A.word.now A.vals.now A.us.now A.eqs.now
    c.requires
    D.result D.new.vals D.new.us D.new.eqs D.ensures
    _ _ c.in_ok-found.was
    D.auto.vals D.auto.us D.auto.eqs

pub returns : goal.returns
returns c =
    let A = c.args in
    let D = c.descend in
    solved_as A.t.n A.t.r A.t.most A.t.coeffs A.t.words A.sheet.now A.word.now A.vals.now A.us.now A.eqs.now
    c.requires
    D.result D.new.vals D.new.us D.new.eqs D.ensures
    _ _ c.in_ok-found.was
    D.auto.vals D.auto.us D.auto.eqs _ c.settle.ensures
