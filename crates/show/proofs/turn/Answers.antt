use Rattle.meaning.specs.Limits.{head_bytes, strip_width}
use Rattle.meaning.specs.Stream.{answer_bytes}
use Rattle.show.specs.Line.{plain_of, longest_line}
use borrow.Author.Rules.{rules}
use Rattle.show.proofs.turn.Goals as goal

pub shown-k-requires : goal.shown-k-requires
unfolding answer_bytes head_bytes strip_width plain_of longest_line
shown-k-requires c = search rules
