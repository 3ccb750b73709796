use Rattle.meaning.proofs.Cutting.{ends_nowhere, ends_last, ends-within, ends-first}
use native.Mathlib.Nat.{div-le_self}
use native.Mathlib.Omega.{arith}
use Rattle.answers.proofs.pieces.end.Goals as goal

pub returns-then-size-eq0 : goal.returns-then-size-eq0
returns-then-size-eq0 c = ends_nowhere _ _ _ c.if-size-eq0.true

pub returns-then-len-size : goal.returns-then-len-size
returns-then-len-size c = ends_last _ _ _ c.if-size-eq0.false c.if-len-size.true

pub overflow_add-result : goal.overflow_add-result
overflow_add-result c = omega (arith, c.if-len-size.false, div-le_self c.args.len c.args.size)

pub overflow_mul-result : goal.overflow_mul-result
overflow_mul-result c =
    let A = c.args in
    omega (arith, ends-within A.size A.len A.i c.if-size-eq0.false c.if-len-size.false)

pub returns-else-len-size : goal.returns-else-len-size
returns-else-len-size c = ends-first _ _ _ c.if-size-eq0.false c.if-len-size.false
