use mathlib.Core.Path.{ap, ◌∙◌}
use Rattle.meaning.specs.Limits.{layout}
use Rattle.meaning.specs.Stream.{n_of}
use Rattle.meaning.proofs.Sizing.{size-most}
use Rattle.strip_stream.specs.Strips.{part_bytes}
use Rattle.strip_stream.proofs.part.Goals as goal

pub part_bytes-requires : goal.part_bytes-requires
unfolding n_of
part_bytes-requires c = rw c.n_of.ensures (size-most layout c.args.sheet.now)

pub returns : goal.returns
returns c = c.part_bytes.ensures ∙ ap part_bytes c.n_of.ensures
