use Rattle.std.proofs.Common.{◌≡◌, ◌*◌, length, drop}
use Rattle.std.specs.Slice.Iter.{chunks_exact_rest, chunks_exact_size}
use Rattle.strips.proofs.Loops.{PlacedUpTo}
use Rattle.strips.proofs.place.place.Given as goal

abbrev pub invariant-loop-j : goal.invariant-loop-j
invariant-loop-j l = record {
  size : chunks_exact_size l.bytes-iterator ≡ 64;
  left : chunks_exact_rest l.bytes-iterator ≡ drop (l.j * 64) l.s.records.now;
  placed : PlacedUpTo l.j l.t.coeffs l.t.words (length l.s.lost.now) l.s.records.now l.vals;
}
