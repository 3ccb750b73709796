use Rattle.std.proofs.Common.{refl}
use Rattle.std.proofs.lemmas.Result.{err_from_is_err_and}
use Rattle.meaning.specs.Limits.{record_bytes, mask_bytes, largest_ceiling}
use Rattle.meaning.proofs.Results.{refusal_stops}
use Rattle.decoder.proofs.Deciding.{fault_call, fault_ceiling, fault-none}
use Rattle.decoder.proofs.check.Goals as goal

pub returns-in_err-check_call : goal.returns-in_err-check_call
unfolding record_bytes mask_bytes
returns-in_err-check_call c =
    let p = err_from_is_err_and c.from_residual.result c.from_residual.ensures.1 in
    rw (p.1, p.2) (fault_call _ _ _ _ _ _ _ refl _ c.in_err-check_call.ensures (refusal_stops _))

pub returns-then-ceiling-gt-LARGEST_CEILING : goal.returns-then-ceiling-gt-LARGEST_CEILING
unfolding record_bytes mask_bytes largest_ceiling
returns-then-ceiling-gt-LARGEST_CEILING c =
    fault_ceiling _ _ _ _ _ _ _ refl _ c.in_ok-check_call.ensures refl c.if-ceiling-gt-LARGEST_CEILING.true

pub returns : goal.returns
unfolding record_bytes mask_bytes largest_ceiling
returns c = fault-none _ _ _ _ _ _ _ refl _ c.in_ok-check_call.ensures refl c.if-ceiling-gt-LARGEST_CEILING.false
