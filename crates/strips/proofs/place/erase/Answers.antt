use mathlib.Core.Path.{sym, ap, ◌∙◌}
use Prim.Native.Nat.{ℕ}
use lib.ListN.{get_or}
use Rattle.bits.specs.Vectors.{tab}
use Rattle.bits.proofs.Filling.{filling_next, filling_all}
use Rattle.strips.specs.Placing.{lost_sym}
use Rattle.strips.proofs.Loops.{lost-is}
use native.Mathlib.Omega.{arith}
use Rattle.strips.proofs.place.erase.Goals as goal

pub loop-j-preserved : goal.loop-j-preserved
loop-j-preserved c = filling_next c.loop-j.invariant _ (omega (arith, c.loop-j-test.true, c.requires)) c.symbol.ensures

pub returns : goal.returns
returns c = let inv = c.loop-j.invariant in lost-is c.args.lost.now _ (inv.size ∙ c.requires) (filling_all inv (omega (arith, c.loop-j-test.false, c.requires)) ∙ ap (λ (n : ℕ). tab n (λ (k : ℕ). lost_sym (get_or c.args.lost.now k 0))) (sym inv.size))
