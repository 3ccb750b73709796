use mathlib.Core.Path.{ap₂}
use mathlib.Core.List.{List, ◌++◌}
use Prim.Native.Nat.{ℕ}
use native.Mathlib.Omega.{arith}
use Rattle.division.proofs.Division.{length-small}
use Rattle.division.proofs.Checking.{attached}
use Rattle.division.proofs.Check.attach.Goals as goal

pub spell-requires : goal.spell-requires
spell-requires c = omega (arith, length-small _ c.args.self.known)

pub returns : goal.returns
returns c =
    ap₂ {C = List ℕ} ◌++◌ c.copy_from_slice.ensures.after
    (attached _ _ _ _ _ (omega arith) c.spell.ensures (c.flush.ensures _ c.feed.ensures))
