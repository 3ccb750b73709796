-- `holds`: the rows that the iterator has left are to scan.
use Rattle.std.proofs.Common.{◌≡◌}
use Rattle.std.specs.Slice.Iter.{chunks_exact_rest, chunks_exact_size}
use Rattle.solve.proofs.Scan.{scan}
use Rattle.solve.proofs.verdict.holds.Given as goal

abbrev pub invariant-loop-row : goal.invariant-loop-row
invariant-loop-row l = (chunks_exact_size l.row-iterator ≡ l.w) × (scan l.c l.w (chunks_exact_rest l.row-iterator) ≡ scan l.c l.w l.v)
