-- Results of calls as answers: a refusal is never Done, and two results that are the same answer are the same.
--     refusal_stops               a refusal is not Done
--     verdict_or_refusal_same     of a call that gives a verdict
--     done_or_refusal_same        of a call that gives nothing
--     whole_or_refusal_same       of a call that tells whether a word is a codeword
use Rattle.std.proofs.Common.{◌≡◌, refl, sym, ap, ◌∙◌, Bool, true, false, Result, Ok, Err}
use Rattle.meaning.specs.declared.Answer.{Answer}
use Rattle.meaning.specs.declared.Answer.TheVariants as A
use Rattle.meaning.specs.declared.Verdict.{Verdict}
use Rattle.meaning.specs.declared.Verdict.TheVariants.{Unique, Ambiguous, Inconsistent, LaneInconsistent}
use Rattle.meaning.specs.declared.Refused.{Refused}
use Rattle.meaning.specs.declared.Refused.TheVariants.{BadShape, BadRecord, HoldsNothing, BadCheck, BadLength, BadSymbol, ShortOutput, BadCeiling, TooMany}
use Rattle.meaning.specs.Answers.{is_done}
use Rattle.meaning.specs.Results.{refusal, verdict_or_refusal, done_or_refusal, whole_or_refusal}

-- a refusal is not Done
pub refusal_stops : (e : Refused) → is_done (refusal e) ≡ false
refusal_stops BadShape = refl
refusal_stops (BadRecord i) = refl
refusal_stops HoldsNothing = refl
refusal_stops BadCheck = refl
refusal_stops BadLength = refl
refusal_stops (BadSymbol i) = refl
refusal_stops ShortOutput = refl
refusal_stops BadCeiling = refl
refusal_stops (TooMany g) = refl

-- ---- the result that an answer is of

-- the result of a call whose answers without a refusal f reads
abbrev read : {A : Type 0} → (Answer → A) → Answer → Result A Refused
read f A.Done = Ok (f A.Done)
read f (A.Unique g m) = Ok (f (A.Unique g m))
read f (A.Ambiguous g m d) = Ok (f (A.Ambiguous g m d))
read f (A.Inconsistent g m) = Ok (f (A.Inconsistent g m))
read f (A.LaneInconsistent t g m) = Ok (f (A.LaneInconsistent t g m))
read f A.BadShape = Err BadShape
read f (A.BadRecord i) = Err (BadRecord i)
read f A.BadCheck = Err BadCheck
read f A.BadLength = Err BadLength
read f (A.BadSymbol i) = Err (BadSymbol i)
read f A.ShortOutput = Err ShortOutput
read f A.BadCeiling = Err BadCeiling
read f (A.TooMany g) = Err (TooMany g)
read f A.HoldsNothing = Err HoldsNothing

read_refusal : {A : Type 0} (f : Answer → A) (e : Refused) → read f (refusal e) ≡ Err e
read_refusal f BadShape = refl
read_refusal f (BadRecord i) = refl
read_refusal f HoldsNothing = refl
read_refusal f BadCheck = refl
read_refusal f BadLength = refl
read_refusal f (BadSymbol i) = refl
read_refusal f ShortOutput = refl
read_refusal f BadCeiling = refl
read_refusal f (TooMany g) = refl

-- the verdict of an answer that has one
abbrev as_verdict : Answer → Verdict
as_verdict (A.Unique g m) = Unique g m
as_verdict (A.Ambiguous g m d) = Ambiguous g m d
as_verdict (A.Inconsistent g m) = Inconsistent g m
as_verdict (A.LaneInconsistent t g m) = LaneInconsistent t g m
as_verdict _ = Unique 0 0

read_verdict : (r : Result Verdict Refused) → read as_verdict (verdict_or_refusal r) ≡ r
read_verdict (Ok (Unique g m)) = refl
read_verdict (Ok (Ambiguous g m d)) = refl
read_verdict (Ok (Inconsistent g m)) = refl
read_verdict (Ok (LaneInconsistent t g m)) = refl
read_verdict (Err e) = read_refusal as_verdict e

read_done : (r : Result (Unit {0}) Refused) → read (λ _. tt) (done_or_refusal r) ≡ r
read_done (Ok tt) = refl
read_done (Err e) = read_refusal (λ _. tt) e

read_whole : (r : Result Bool Refused) → read is_done (whole_or_refusal r) ≡ r
read_whole (Ok true) = refl
read_whole (Ok false) = refl
read_whole (Err e) = read_refusal is_done e

-- ---- two results that are the same answer are the same

pub verdict_or_refusal_same : (r s : Result Verdict Refused) → verdict_or_refusal r ≡ verdict_or_refusal s → r ≡ s
verdict_or_refusal_same r s e = sym (read_verdict r) ∙ ap (read as_verdict) e ∙ read_verdict s

pub done_or_refusal_same : (r s : Result (Unit {0}) Refused) → done_or_refusal r ≡ done_or_refusal s → r ≡ s
done_or_refusal_same r s e = sym (read_done r) ∙ ap (read (λ _. tt)) e ∙ read_done s

pub whole_or_refusal_same : (r s : Result Bool Refused) → whole_or_refusal r ≡ whole_or_refusal s → r ≡ s
whole_or_refusal_same r s e = sym (read_whole r) ∙ ap (read is_done) e ∙ read_whole s
