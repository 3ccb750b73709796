use Rattle.meaning.specs.Limits.{strip_width}
use borrow.Author.Rules.{rules}
use Rattle.stream.proofs.record.blank.Goals as goal

pub returns : goal.returns
unfolding strip_width
returns c = search rules
