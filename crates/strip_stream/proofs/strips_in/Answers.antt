use native.Mathlib.Omega.{arith}
use Rattle.std.proofs.lemmas.Result.{err_from_is_err_and}
use Rattle.stream.proofs.Agreeing.{agreed_terms}
use Rattle.strip_stream.proofs.Cases.{many_refused, many-right}
use Rattle.strip_stream.proofs.strips_in.Goals as goal

pub returns-in_err-t : goal.returns-in_err-t
returns-in_err-t c = λ alone.
    let A = c.args in
    let p = err_from_is_err_and c.from_residual.result c.from_residual.ensures.1 in
    rw p.1 (many_refused A.sheet.now A.choice.now A.input.now alone _ c.in_err-t.ensures)

pub strip_bytes-requires : goal.strip_bytes-requires
strip_bytes-requires c = let a = agreed_terms c.args.sheet.now c.args.choice.now c.in_ok-t.t c.in_ok-t.ensures in omega (arith, a.small)

pub returns : goal.returns
returns c = λ alone.
    let A = c.args in
    let a = agreed_terms A.sheet.now A.choice.now c.in_ok-t.t c.in_ok-t.ensures in
    many-right A.sheet.now A.choice.now A.input.now alone c.in_ok-t.t.n a.n-is a.small a.two _ _ c.strip_bytes.ensures c.count.ensures
