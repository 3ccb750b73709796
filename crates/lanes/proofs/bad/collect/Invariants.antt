use Rattle.std.proofs.Common.{◌≡◌, map}
use Rattle.std.specs.Slice.Iter.{chunks_exact_size}
use Rattle.lanes.specs.Inner.{Collected}
use Rattle.lanes.proofs.bad.collect.Given as goal

abbrev pub invariant-loop-x : goal.invariant-loop-x
invariant-loop-x l = (chunks_exact_size l.x-iterator ≡ l.eqs.w) × Collected l.eqs.c (map (λ y. y.now) l.yielded) l.bad
