use Rattle.std.proofs.Common.{◌≡◌, ◌*◌, ◌<◌, ℕ, drop, get_or}
use Rattle.std.specs.Slice.Iter.{chunks_exact_rest, chunks_exact_size}
use Rattle.bits.specs.Rows.{row}
use Rattle.lanes.specs.Lanes.{row_mark}
use Rattle.lanes.proofs.fill.marks.Given as goal

abbrev pub invariant-loop-j : goal.invariant-loop-j
invariant-loop-j l =
    (chunks_exact_size l.x-iterator ≡ l.vals.w)
    × (chunks_exact_rest l.x-iterator ≡ drop (l.j * l.vals.w) l.vals.words.now)
    × ((k : ℕ) → k < l.j → get_or l.out k 0 ≡ row_mark l.vals.c (row l.vals.w l.vals.words.now k))
