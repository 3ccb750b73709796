-- What the result of a call is as an answer: a verdict, that it is done, or whether a word is whole; or a refusal.
use Rattle.std.specs.Prelude.{Bool, true, false, Result, Ok, Err}
use Rattle.meaning.specs.declared.Answer.{Answer}
use Rattle.meaning.specs.declared.Answer.TheVariants as A
use Rattle.meaning.specs.declared.Verdict.{Verdict}
use Rattle.meaning.specs.declared.Verdict.TheVariants.{Unique, Ambiguous, Inconsistent, LaneInconsistent}
use Rattle.meaning.specs.declared.Refused.{Refused}
use Rattle.meaning.specs.declared.Refused.TheVariants.{BadShape, BadRecord, HoldsNothing, BadCheck, BadLength, BadSymbol, ShortOutput, BadCeiling, TooMany}

-- a verdict as an answer
abbrev pub verdict : Verdict → Answer
verdict (Unique g m) = A.Unique g m
verdict (Ambiguous g m d) = A.Ambiguous g m d
verdict (Inconsistent g m) = A.Inconsistent g m
verdict (LaneInconsistent t g m) = A.LaneInconsistent t g m

-- a refusal as an answer
abbrev pub refusal : Refused → Answer
refusal BadShape = A.BadShape
refusal (BadRecord i) = A.BadRecord i
refusal HoldsNothing = A.HoldsNothing
refusal BadCheck = A.BadCheck
refusal BadLength = A.BadLength
refusal (BadSymbol i) = A.BadSymbol i
refusal ShortOutput = A.ShortOutput
refusal BadCeiling = A.BadCeiling
refusal (TooMany g) = A.TooMany g

-- the answer of a call that gives a verdict
abbrev pub verdict_or_refusal : Result Verdict Refused → Answer
verdict_or_refusal (Ok v) = verdict v
verdict_or_refusal (Err e) = refusal e

-- the answer of a call that does its work and gives nothing: Done
abbrev pub done_or_refusal : Result (Unit {0}) Refused → Answer
done_or_refusal (Ok _) = A.Done
done_or_refusal (Err e) = refusal e

-- the answer of a call that tells whether a word is a codeword: Done where it is, else Inconsistent
abbrev pub whole_or_refusal : Result Bool Refused → Answer
whole_or_refusal (Ok true) = A.Done
whole_or_refusal (Ok false) = A.Inconsistent 0 0
whole_or_refusal (Err e) = refusal e
