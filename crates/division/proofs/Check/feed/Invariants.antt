use mathlib.Core.List.{map}
use lib.ListN.{take}
use Rattle.meaning.specs.Answers.{is_one}
use Rattle.division.specs.Division.{Fed}
use Rattle.division.proofs.Check.feed.Given as goal

abbrev pub invariant-loop-b : goal.invariant-loop-b
invariant-loop-b l = Fed l.self.length (map is_one (take l.b-index l.bits)) l.s
