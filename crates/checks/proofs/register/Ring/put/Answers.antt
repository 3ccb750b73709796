use mathlib.Core.Path.{◌≡◌, sym, ap, ◌∙◌}
use Prim.Native.Nat.{ℕ, ◌*◌}
use native.Mathlib.Omega.{arith}
use lib.ListN.{length}
use Rattle.checks.specs.Registers.{slot, turned}
use Rattle.checks.proofs.Turning.{length-turned, ring_word}
use Rattle.checks.proofs.Columns.{putting_next}
use Rattle.checks.proofs.register.Ring.put.Goals as goal

pub loop-j-preserved : goal.loop-j-preserved
loop-j-preserved g c =
    let A = c.args in
    let R = A.self.now in
    let L = c.loop-j in
    let l : length R.words ≡ g.row.N = omega arith in
    let t = length-turned R.words R.first (omega (arith, R.inside)) ∙ l in
    let e = ring_word R.words R.first (omega (arith, R.inside)) L.j c.slot.result (omega (arith, c.loop-j-test.true)) (c.slot.ensures.is ∙ ap (λ (r : ℕ). slot r R.first L.j) (sym l)) in
    rw e (putting_next A.w A.k (turned R.words R.first) A.out.now L.out L.j L.invariant (c.requires.0 ∙ ap (λ (x : ℕ). x * A.w) (sym t)) c.requires.1 (omega (arith, t, c.loop-j-test.true)))
