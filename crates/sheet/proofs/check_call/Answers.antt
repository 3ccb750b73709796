-- The sheet's refusal is the call's; past it the word's is.
use Rattle.std.proofs.Common.{refl}
use Rattle.std.proofs.lemmas.Result.{err_from_is_err_and}
use Rattle.meaning.proofs.Results.{refusal_stops}
use Rattle.sheet.proofs.Calls.{call_sheet, call_word}
use Rattle.sheet.proofs.check_call.Goals as goal

pub returns-in_err-check_sheet : goal.returns-in_err-check_sheet
returns-in_err-check_sheet c =
    let p = err_from_is_err_and c.from_residual.result c.from_residual.ensures.1 in
    rw (p.1, p.2) (call_sheet _ _ _ _ _ _ _ _ _ c.in_err-check_sheet.ensures _ refl (refusal_stops _))

pub returns : goal.returns
returns c = call_word _ _ _ _ _ _ _ _ _ c.in_ok-check_sheet.ensures _ refl refl _ c.check_word.ensures
