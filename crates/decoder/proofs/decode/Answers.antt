use Rattle.std.proofs.lemmas.Result.{err_from_is_err_and}
use native.Mathlib.Omega.{arith}
use mathlib.Core.Path.{refl}
use Rattle.meaning.proofs.Results.{refusal_stops}
use Rattle.decoder.proofs.Deciding.{decode_refused, formed, roomy, over, decided_at, narrow}
use Rattle.decoder.proofs.decode.Goals as goal

pub returns-in_err-check : goal.returns-in_err-check
returns-in_err-check c =
    let p = err_from_is_err_and c.from_residual.result c.from_residual.ensures.1 in
    rw (p.1, p.2) (decode_refused _ _ _ _ _ _ _ c.in_err-check.ensures _ refl (refusal_stops _))

pub returns-then-ceiling-g : goal.returns-then-ceiling-g
returns-then-ceiling-g c = over _ _ _ _ _ _ c.in_ok-check.ensures _ c.unknowns-g.ensures c.if-ceiling-g.true

pub invariant_of-w : goal.invariant_of-w
invariant_of-w c = record {
  formed = formed _ _ _ _ _ _ c.in_ok-check.ensures;
  placed = omega arith;
  wide = refl;
  narrow = narrow _ _ _ _ _ _ c.in_ok-check.ensures _ c.unknowns-g.ensures c.if-ceiling-g.false;
}

pub answer-requires : goal.answer-requires
answer-requires c = roomy _ _ _ _ _ _ c.in_ok-check.ensures

pub returns : goal.returns
returns c = decided_at _ _ _ _ _ _ c.in_ok-check.ensures _ c.unknowns-g.ensures c.if-ceiling-g.false _ c.answer.ensures
