use mathlib.Core.Path.{◌≡◌, sym, ap, ◌∙◌}
use Prim.Native.Nat.{ℕ}
use native.Mathlib.Omega.{arith}
use lib.ListN.{length}
use Rattle.checks.specs.Registers.{slot}
use Rattle.checks.proofs.Turning.{turned-plus}
use Rattle.checks.proofs.register.Ring.add_at.Goals as goal

pub returns : goal.returns
returns g c =
    let R = c.args.self.now in
    let l : length R.words ≡ g.row.N = omega arith in
    turned-plus _ _ _ _ _ (omega (arith, R.inside)) (omega arith) (c.slot-x.ensures.is ∙ ap (λ (r : ℕ). slot r R.first c.args.j) (sym l))
