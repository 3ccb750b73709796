use Rattle.std.proofs.Common.{◌≡◌, ◌≤◌, ◌/◌, ◌*◌, ◌++◌, length, drop}
use Rattle.std.specs.Slice.Iter.{chunks_exact_rest, chunks_exact_size}
use Rattle.lanes.specs.Inner.{record_rows}
use Rattle.lanes.proofs.fill.records.Given as goal

abbrev pub invariant-loop-j : goal.invariant-loop-j
invariant-loop-j l =
    (chunks_exact_size l.x-iterator ≡ l.vals.w)
    × (chunks_exact_rest l.x-iterator ≡ drop (l.j * l.vals.w) l.vals.words.now)
    × (l.j ≤ length l.vals.words.now / l.vals.w)
    × (l.out ≡ record_rows l.vals.c l.vals.w l.vals.words.now l.j ++ drop (l.j * 64) l.initial.out)
