use mathlib.Core.Path.{ap}
use mathlib.Core.List.{List, ◌++◌}
use Prim.Native.Nat.{ℕ}
use lib.ListN.{drop}
use Rattle.codec.proofs.Reading.{nothing, something}
use Rattle.codec.proofs.extract.Goals as goal

pub returns-then-whole : goal.returns-then-whole
returns-then-whole c =
    let f = c.lawful-whole.new.free in
    let m = c.args.m in
    let out = c.args.out.now in
    something _ _ _ c.vector_behind.new.u c.requires.legible.0.long c.vector_behind.ensures _ m out _ c.lawful-whole.ensures.0 c.if-whole.true
    f _ c.lawful-whole.ensures.1 (ap (λ (x : List ℕ). x ++ drop m out) c.copy_from_slice.ensures.after)

pub returns-else-whole : goal.returns-else-whole
returns-else-whole c =
    nothing _ _ _ c.vector_behind.new.u c.requires.legible.0.long c.vector_behind.ensures _ _ _ _ c.lawful-whole.ensures.0 c.if-whole.false
