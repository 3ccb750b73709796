use lib.ListN.{length}
use Rattle.decoder.specs.Placing.{Placed, Unplaced}
use Rattle.decoder.proofs.place.place.Given as goal

abbrev pub invariant-loop-j : goal.invariant-loop-j
invariant-loop-j l = record {
  placed : Placed l.t.coeffs l.t.words l.j l.w.symbols.now l.vals;
  left : Unplaced l.t.words l.j (length l.w.symbols.now) l.vals;
}
