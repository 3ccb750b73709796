-- `numbers` gives the five numbers of each case.
use mathlib.Core.Path.{sym, ap}
use Rattle.meaning.specs.Answers.{numbers_of}
use Rattle.answers.proofs.numbers.Goals as goal

pub returns-in-Unique : goal.returns-in-Unique
returns-in-Unique c = sym (ap numbers_of c.in-Unique.is)

pub returns-in-Ambiguous : goal.returns-in-Ambiguous
returns-in-Ambiguous c = sym (ap numbers_of c.in-Ambiguous.is)

pub returns-in-Inconsistent : goal.returns-in-Inconsistent
returns-in-Inconsistent c = sym (ap numbers_of c.in-Inconsistent.is)

pub returns-in-LaneInconsistent : goal.returns-in-LaneInconsistent
returns-in-LaneInconsistent c = sym (ap numbers_of c.in-LaneInconsistent.is)

pub returns-in-BadRecord : goal.returns-in-BadRecord
returns-in-BadRecord c = sym (ap numbers_of c.in-BadRecord.is)

pub returns-in-BadSymbol : goal.returns-in-BadSymbol
returns-in-BadSymbol c = sym (ap numbers_of c.in-BadSymbol.is)

pub returns-in-TooMany : goal.returns-in-TooMany
returns-in-TooMany c = sym (ap numbers_of c.in-TooMany.is)
