use Rattle.std.proofs.Common.{arith, refl}
use Rattle.std.proofs.lemmas.Result.{err_from_is_err_and}
use mathlib.Core.List.{[]}
use Rattle.meaning.specs.Limits.{largest_n}
use Rattle.stream.proofs.Agreeing.{agreed_terms}
use Rattle.strip_stream.proofs.Cases.{alone}
use Rattle.repair.specs.Runs.{run_strips}
use Rattle.repair.proofs.Runs.{ready, run_is}
use Rattle.repair.proofs.Lot.fit.Goals as goal

pub returns-in_err-t : goal.returns-in_err-t
returns-in_err-t c =
    let l = c.args.self in
    let p = err_from_is_err_and c.from_residual.result c.from_residual.ensures.1 in
    let a = alone l.sheet.now l.choice.now [] [] _ c.in_err-t.ensures in
    rw p.1 (a.one, a.none)

pub invariant_of-result : goal.invariant_of-result
unfolding largest_n run_strips
invariant_of-result c =
    let l = c.args.self in
    let t = agreed_terms l.sheet.now l.choice.now _ c.in_ok-t.ensures in
    let (e, m) = run_is _ t.small in
    record {
      ready = ready l.sheet.now l.choice.now _ t.n-is t.small t.two _ _ _ e refl refl;
      within = omega (arith, e, m);
    }

pub overflow_shl-result : goal.overflow_shl-result
unfolding largest_n
overflow_shl-result c =
    let l = c.args.self in
    let t = agreed_terms l.sheet.now l.choice.now _ c.in_ok-t.ensures in
    omega (arith, t.small)
