use native.Mathlib.Omega.{arith}
use Rattle.bits.proofs.Words.{shl_one}
use Rattle.division.proofs.Division.{length-small}
use Rattle.division.proofs.Check.limit.Goals as goal

pub overflow_shl-result : goal.overflow_shl-result
overflow_shl-result c = omega (arith, length-small _ c.args.self.known)

pub returns : goal.returns
returns c = shl_one _ (omega (arith, length-small _ c.args.self.known))
