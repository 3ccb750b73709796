use Rattle.std.proofs.Common.{refl}
use Rattle.std.proofs.lemmas.Result.{err_from_is_err_and}
use Rattle.meaning.specs.Limits.{record_bytes, mask_bytes, largest_ceiling}
use Rattle.meaning.proofs.Results.{refusal_stops}
use Rattle.strips.proofs.Faults.{fault_sheet, fault-strip, fault_word, fault_ceiling, fault-none}
use Rattle.strips.proofs.check.Goals as goal

pub returns-in_err-check_sheet : goal.returns-in_err-check_sheet
returns-in_err-check_sheet c =
    let p = err_from_is_err_and c.from_residual.result c.from_residual.ensures.1 in
    rw (p.1, p.2) (fault_sheet _ _ _ _ _ _ _ _ c.in_err-check_sheet.ensures (refusal_stops _))

pub returns-then-strip-size : goal.returns-then-strip-size
unfolding record_bytes mask_bytes
returns-then-strip-size c = fault-strip _ _ _ _ _ _ _ _ c.in_ok-check_sheet.ensures refl c.if-strip-size.true

pub returns-in_err-check_word : goal.returns-in_err-check_word
unfolding record_bytes mask_bytes
returns-in_err-check_word c =
    let p = err_from_is_err_and c.from_residual-in_err-check_word.result c.from_residual-in_err-check_word.ensures.1 in
    rw (p.1, p.2) (fault_word _ _ _ _ _ _ _ _ c.in_ok-check_sheet.ensures refl c.if-strip-size.false _ c.in_err-check_word.ensures (refusal_stops _))

pub returns-then-ceiling-gt-LARGEST_CEILING : goal.returns-then-ceiling-gt-LARGEST_CEILING
unfolding record_bytes mask_bytes largest_ceiling
returns-then-ceiling-gt-LARGEST_CEILING c =
    fault_ceiling _ _ _ _ _ _ _ _ c.in_ok-check_sheet.ensures refl c.if-strip-size.false _ c.in_ok-check_word.ensures refl c.if-ceiling-gt-LARGEST_CEILING.true

pub returns : goal.returns
unfolding record_bytes mask_bytes largest_ceiling
returns c = fault-none _ _ _ _ _ _ _ _ c.in_ok-check_sheet.ensures refl c.if-strip-size.false _ c.in_ok-check_word.ensures refl c.if-ceiling-gt-LARGEST_CEILING.false
