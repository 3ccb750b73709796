use mathlib.Core.Path.{sym, ◌∙◌}
use native.Mathlib.Omega.{arith}
use Rattle.meaning.specs.Limits.{largest_n}
use Rattle.bits.proofs.Words.{shl_one}
use Rattle.sheet.proofs.Shapes.{positions-none, positions-all}
use Rattle.sheet.proofs.size.Goals as goal

pub returns-then-n-gt-LARGEST_N : goal.returns-then-n-gt-LARGEST_N
unfolding largest_n
returns-then-n-gt-LARGEST_N c = sym (positions-none _ c.if-n-gt-LARGEST_N.true)

pub returns : goal.returns
unfolding largest_n
returns c = shl_one _ (omega arith) ∙ sym (positions-all _ c.if-n-gt-LARGEST_N.false)
