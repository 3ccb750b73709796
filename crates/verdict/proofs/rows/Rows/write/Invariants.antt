use Rattle.std.proofs.Common.{◌<◌, ◌≡◌, ℕ, ◌*◌, drop, slice_index}
use Rattle.std.specs.Fn.{FnReturnsAt}
use Rattle.std.specs.Slice.Iter.{chunks_exact_rest, chunks_exact_size}
use Rattle.bits.specs.Rows.{row}
use Rattle.verdict.proofs.rows.Rows.write.Given as goal

abbrev pub invariant-loop-j : goal.invariant-loop-j
invariant-loop-j g l =
    (chunks_exact_size l.x-iterator ≡ l.self.w)
    × (chunks_exact_rest l.x-iterator ≡ drop (l.j * l.self.w) l.self.words.now)
    × ((k : ℕ) → k < l.j → FnReturnsAt g.F.Fn l.byte (row l.self.w l.self.words.now k) (slice_index l.out k))
