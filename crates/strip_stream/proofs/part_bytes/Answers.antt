use lib.Pow.{pow_mono}
use Rattle.meaning.specs.Limits.{largest_n}
use Rattle.strip_stream.specs.Strips.{part_bytes}
use native.Mathlib.Omega.{arith}
use Rattle.strip_stream.proofs.part_bytes.Goals as goal

pub overflow_shl-result : goal.overflow_shl-result
unfolding largest_n
overflow_shl-result c = omega arith

pub returns : goal.returns
unfolding largest_n part_bytes
returns c = omega (arith, pow_mono {i = c.args.n} {j = 10} (omega arith))
