use Rattle.std.proofs.Common.{◌≡◌, ◌+◌, ◌-◌, ◌*◌, ◌/◌, length, drop, None}
use Rattle.bits.specs.Vectors.{zeros}
use Rattle.meaning.specs.Limits.{record_bytes}
use Rattle.meaning.specs.Sheet.{mask}
use Rattle.sheet.proofs.Records.{Left}
use Rattle.sheet.proofs.faults.first_bad.Given as goal

abbrev pub invariant-loop-k : goal.invariant-loop-k
invariant-loop-k l = (l.bad ≡ None) × (l.low ≡ l.from - 64 * l.k) × (zeros (drop (64 * l.k + (l.from - 64 * l.k)) (mask l.sheet l.i)) ≡ zeros (drop l.from (mask l.sheet l.i)))

abbrev pub invariant-records : goal.invariant-records
invariant-records l = (l.bad ≡ None) × Left l.sheet (length l.sheet / record_bytes) l.i
