use Rattle.meaning.specs.Limits.{head_bytes}
use native.Mathlib.Omega.{arith}
use Rattle.repair.proofs.serve.Goals as goal

pub refuse-requires : goal.refuse-requires
unfolding head_bytes
refuse-requires c = (c.in-Err.ensures.0, c.in-Err.ensures.1, omega arith)
