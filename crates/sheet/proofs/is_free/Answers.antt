use mathlib.Core.Path.{ap}
use Prim.Native.Nat.{ℕ}
use lib.Dec.{eqb}
use Rattle.sheet.proofs.is_free.Goals as goal

pub returns : goal.returns
returns c = ap (λ (b : ℕ). eqb b 0) c.byte.ensures
