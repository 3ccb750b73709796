use mathlib.Core.Path.{ap, ◌∙◌}
use Prim.Native.Nat.{◌-◌}
use mathlib.Core.List.{◌++◌}
use Rattle.polar.specs.Bytes.{polar_bytes}
use Rattle.polar.proofs.Transforming.{join, bytes-zero}
use Rattle.polar.proofs.+steps.Goals as goal

pub returns-then-n-gt0 : goal.returns-then-n-gt0
returns-then-n-gt0 t c =
    let A = c.args in
    let P = c.split_at_mut-left.ensures in
    let b = c.steps-then-n-gt0 in
    ap (λ l. l ++ b.new.s) c.fold.ensures
    ∙ join A.s.now _ _ A.n c.if-n-gt0.true c.requires (c.steps.ensures ∙ ap (polar_bytes (A.n - 1)) P.front) (b.ensures ∙ ap (polar_bytes (A.n - 1)) P.back)

pub returns-else-n-gt0 : goal.returns-else-n-gt0
returns-else-n-gt0 t c = bytes-zero c.args.n c.if-n-gt0.false c.args.s.now
