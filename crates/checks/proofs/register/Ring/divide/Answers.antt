use mathlib.Core.Path.{ap, ◌∙◌}
use Prim.Native.Nat.{ℕ}
use lib.ListN.{replicate}
use Rattle.checks.proofs.Shifting.{dividing-none, dividing-free, dividing-frozen, dividing-all}
use Rattle.checks.proofs.register.Ring.divide.Goals as goal
use Rattle.checks.proofs.register.Ring.divide.Goals.{then-is_free, else-is_free}

pub loop-i-init : goal.loop-i-init
loop-i-init g c = dividing-none _ _ _ _ _ _ _ _ (c.new-ring.ensures ∙ ap (λ (x : ℕ). replicate g.row.N x) c.unit_word.ensures)

pub loop-i-preserved : goal.loop-i-preserved
loop-i-preserved g c =
    let inv = c.loop-i.invariant in
    let t = c.loop-i-test.true in
    let K = c.is_free.ensures in
    elim c.if-is_free.branch [
      | then-is_free x ↦ rw x.ring-is (dividing-free _ _ _ _ _ _ _ _ _ inv t K x.if-is_free.true _ x.feed.ensures)
      | else-is_free x ↦ rw x.ring-is (dividing-frozen _ _ _ _ _ _ _ _ _ inv t K x.if-is_free.false)
    ]

pub returns : goal.returns
returns g c = dividing-all _ _ _ _ _ _ _ _ _ c.loop-i.invariant c.loop-i-test.false
