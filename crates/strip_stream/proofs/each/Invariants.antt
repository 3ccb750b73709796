use mathlib.Core.Path.{◌≡◌}
use mathlib.Core.List.{◌++◌, flatten}
use Prim.Native.Nat.{◌*◌}
use lib.ListN.{length, drop}
use Rattle.std.specs.Iterator.Adapters.{enumerate_count}
use Rattle.bits.specs.Vectors.{tab}
use Rattle.meaning.specs.Limits.{head_bytes}
use Rattle.stream.proofs.Turns.{Taken}
use Rattle.strip_stream.specs.Strips.{strip_bytes}
use Rattle.strip_stream.proofs.Turns.{part, head}
use Rattle.strip_stream.proofs.each.Given as goal

abbrev pub invariant-loop-i : goal.invariant-loop-i
invariant-loop-i l =
    let k = enumerate_count l.i-iterator in record {
      taken : Taken (strip_bytes l.t.n) l.input l.i-iterator;
      repaired_room : length l.repaired ≡ length l.initial.repaired;
      records_room : length l.records ≡ length l.initial.records;
      repaired_so_far : l.repaired ≡ flatten (tab k (part l.t l.sheet l.lost l.input)) ++ drop (k * l.room) l.initial.repaired;
      records_so_far : l.records ≡ flatten (tab k (head l.t l.sheet l.lost l.input)) ++ drop (k * head_bytes) l.initial.records;
    }
