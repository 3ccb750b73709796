use mathlib.Core.Path.{ap, ◌∙◌}
use Rattle.polar.specs.Bytes.{transformed}
use Rattle.codec.proofs.Reading.{unsent}
use Rattle.codec.proofs.vector_behind.Goals as goal

pub returns : goal.returns
returns c = c.transform.ensures ∙ ap (transformed c.args.n) c.copy_from_slice.ensures.after ∙ unsent c.args.n c.args.word.now c.requires.0 c.requires.1
