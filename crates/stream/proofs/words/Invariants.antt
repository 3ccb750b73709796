use mathlib.Core.Path.{◌≡◌}
use mathlib.Core.List.{◌++◌, flatten}
use Prim.Native.Nat.{◌*◌, ◌^◌}
use lib.ListN.{length, drop}
use Rattle.std.specs.Iterator.Adapters.{enumerate_count}
use Rattle.bits.specs.Vectors.{tab}
use Rattle.meaning.specs.Stream.{answer_bytes}
use Rattle.stream.proofs.Streaming.{record_at}
use Rattle.stream.proofs.Turns.{Taken}
use Rattle.stream.proofs.words.Given as goal

abbrev pub invariant-loop-i : goal.invariant-loop-i
invariant-loop-i l =
    let k = enumerate_count l.i-iterator in record {
      taken : Taken (2 ^ l.t.n) l.input l.i-iterator;
      room : length l.out ≡ length l.initial.out;
      written : l.out ≡ flatten (tab k (record_at l.t.n l.sheet l.t.r l.t.ceiling l.input)) ++ drop (k * answer_bytes) l.initial.out;
    }
