use mathlib.Core.Path.{◌≡◌, sym, ap, ◌∙◌}
use mathlib.Core.List.{List}
use Prim.Native.Nat.{ℕ}
use native.Mathlib.Omega.{arith}
use lib.ListN.{length}
use Rattle.checks.specs.Registers.{turned}
use Rattle.checks.proofs.Turning.{length-turned, plus_all, plus_end, taps_all}
use Rattle.checks.proofs.register.Ring.add_taps.Goals as goal

pub returns : goal.returns
returns g c =
    let R = c.args.self.now in
    let l : length R.words ≡ g.row.N = omega arith in
    sym (plus_end _ c.taps-places.result.now c.args.o c.loop-j.j-index c.loop-j-test.false) ∙ c.loop-j.invariant
    ∙ ap (λ (js : List ℕ). plus_all (turned R.words R.first) js c.args.o) c.taps-places.ensures
    ∙ taps_all g.row.N _ c.args.o (length-turned R.words R.first (omega (arith, R.inside)) ∙ l)
