use mathlib.Core.Path.{sym}
use native.Mathlib.Omega.{arith}
use Rattle.meaning.specs.Limits.{largest_n, mask_bytes, record_bytes}
use Rattle.sheet.proofs.Shapes.{positions-most, recorded_large, recorded-size}
use Rattle.sheet.proofs.recorded.Goals as goal

pub returns-then-n-gt-LARGEST_N : goal.returns-then-n-gt-LARGEST_N
unfolding largest_n
returns-then-n-gt-LARGEST_N c = sym (recorded_large _ _ c.if-n-gt-LARGEST_N.true)

pub overflow_mul-result : goal.overflow_mul-result
unfolding mask_bytes
overflow_mul-result c = omega (arith, c.size.ensures, positions-most c.args.n)

pub returns : goal.returns
unfolding largest_n record_bytes mask_bytes
returns c = sym (recorded-size _ _ _ c.if-n-gt-LARGEST_N.false c.size.ensures)
