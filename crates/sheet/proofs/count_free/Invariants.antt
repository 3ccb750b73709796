use Rattle.std.proofs.Common.{◌≤◌, ◌/◌, length}
use Rattle.meaning.specs.Limits.{record_bytes}
use Rattle.sheet.proofs.Records.{Counted}
use Rattle.sheet.proofs.count_free.Given as goal

abbrev pub invariant-loop-i : goal.invariant-loop-i
invariant-loop-i l = (l.k ≤ l.i) × Counted l.sheet (length l.sheet / record_bytes) l.i l.k
