use native.Mathlib.Omega.{arith}
use Rattle.meaning.specs.Limits.{largest_n}
use Rattle.bits.proofs.Words.{shl_one}
use Rattle.view.proofs.size_of.Goals as goal

pub overflow_shl-result : goal.overflow_shl-result
unfolding largest_n
overflow_shl-result c = omega arith

pub returns : goal.returns
unfolding largest_n
returns c = shl_one _ (omega arith)
