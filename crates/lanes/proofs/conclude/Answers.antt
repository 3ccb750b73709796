use Rattle.std.proofs.Common.{sym, ◌∙◌, length, rules, arith}
use Rattle.bits.proofs.Tests.{not-both}
use Rattle.lanes.proofs.Fitting.{fit-eqs, fit-vals, fit-rows, concluding-is, misfit-read, refused}
use Rattle.lanes.proofs.Replying.{unsound, sound-read}
use Rattle.lanes.proofs.conclude.Goals as goal

pub returns-in_err-eqs : goal.returns-in_err-eqs
returns-in_err-eqs c = refused _ _ _ _ _ _ _ _ _ (search rules) (λ f. not-both (fit-eqs _ _ _ _ _ _ _ f) (c.in_err-eqs.ensures.1 (omega (arith, f.wide))))

pub returns-in_err-vals : goal.returns-in_err-vals
returns-in_err-vals c = refused _ _ _ _ _ _ _ _ _ (search rules) (λ f. not-both (fit-vals _ _ _ _ _ _ _ f) (c.in_err-vals.ensures.1 (omega (arith, f.wide))))

pub returns-in_err-verdict : goal.returns-in_err-verdict
returns-in_err-verdict c = refused _ _ _ _ _ _ _ _ _ (search rules) (λ f. omega (arith, f.pivots, c.in_err-verdict.ensures.1))

pub returns-then-out-len : goal.returns-then-out-len
returns-then-out-len c =
    let (l, k, n) = c.in_ok-vals.ensures in
    let e = rw (l, n) at c.len.ensures in
    misfit-read _ _ _ _ _ _ _ _ (λ f. omega (arith, f.roomy, c.if-out-len.true, e))

pub returns-in-Some : goal.returns-in-Some
returns-in-Some c =
    let A = c.args in
    let E = c.in_ok-eqs in
    let V = c.in_ok-vals in
    let n = rw (V.ensures.0, V.ensures.2) at c.len.ensures in
    let s = rw (E.ensures.0, E.ensures.1, E.ensures.2) at c.in-Some.ensures in
    let f = fit-rows E.eqs V.vals A.c A.w A.g A.rank A.eqs.now A.vals.now (length A.out.now) E.ensures V.ensures c.in_ok-verdict.ensures.0 (omega (arith, n, c.if-out-len.false)) in
    unsound A.c A.w A.eqs.now A.vals.now A.g A.m A.rank A.out.now _ s.1 s.0 ∙ sym (concluding-is _ _ _ _ _ _ _ _ f)

pub returns : goal.returns
returns c =
    let A = c.args in
    let E = c.in_ok-eqs in
    let V = c.in_ok-vals in
    let n = rw (V.ensures.0, V.ensures.2) at c.len.ensures in
    let s = rw (E.ensures.0, E.ensures.1, E.ensures.2) at c.in_default.ensures in
    let w = rw (V.ensures.0, V.ensures.1, V.ensures.2) at c.write.ensures in
    let f = fit-rows E.eqs V.vals A.c A.w A.g A.rank A.eqs.now A.vals.now (length A.out.now) E.ensures V.ensures c.in_ok-verdict.ensures.0 (omega (arith, n, c.if-out-len.false)) in
    sound-read A.c A.w A.eqs.now A.vals.now A.g A.m A.rank A.out.now s _ c.in_ok-verdict.ensures.1 _ w ∙ sym (concluding-is _ _ _ _ _ _ _ _ f)
