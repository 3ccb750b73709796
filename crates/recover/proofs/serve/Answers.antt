use Rattle.meaning.specs.Limits.{head_bytes, strip_width}
use Rattle.meaning.specs.Stream.{answer_bytes}
use native.Mathlib.Omega.{arith}
use Rattle.recover.proofs.serve.Goals as goal

pub refuse-requires : goal.refuse-requires
unfolding answer_bytes head_bytes strip_width
refuse-requires c = (c.in-Err.ensures, omega arith)
