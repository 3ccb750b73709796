use mathlib.Core.Path.{◌≡◌, sym, ◌∙◌}
use mathlib.Core.Bool.{true≢false}
use Prim.Native.Nat.{suc}
use native.Mathlib.Omega.{arith}
use Rattle.meaning.specs.Limits.{layout, largest_n}
use Rattle.meaning.specs.Stream.{n_of}
use Rattle.sheet.proofs.Shapes.{recorded-true, recorded_when}
use Rattle.meaning.proofs.Sizing.{size-start, size-found, size-next, size_none}
use Rattle.stream.proofs.n_of.Goals as goal

pub loop-n-init : goal.loop-n-init
loop-n-init c = size-start layout c.args.sheet.now

pub returns-then-recorded : goal.returns-then-recorded
unfolding n_of largest_n
returns-then-recorded c =
    size-found layout c.args.sheet.now _ c.loop-n.invariant (omega arith) (recorded-true _ _ (sym c.recorded.ensures ∙ c.if-recorded.true)).1

pub loop-n-preserved : goal.loop-n-preserved
unfolding largest_n
loop-n-preserved c =
    size-next layout c.args.sheet.now _ c.loop-n.invariant (omega arith) (λ e. true≢false (sym (recorded_when _ _ (omega arith) e) ∙ sym c.recorded.ensures ∙ c.if-recorded.false))

pub returns : goal.returns
unfolding n_of largest_n
returns c = let e : c.loop-n.n ≡ suc largest_n = omega arith in sym e ∙ size_none layout c.args.sheet.now _ c.loop-n.invariant c.loop-n-test.false
