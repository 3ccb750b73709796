use Rattle.std.proofs.Common.{arith}
use Rattle.meaning.specs.Limits.{largest_n, record_bytes, mask_bytes}
use Rattle.repair.proofs.work.Goals as goal

pub read_sheet-requires : goal.read_sheet-requires
unfolding record_bytes mask_bytes largest_n
read_sheet-requires c = omega arith

pub read_marks-requires : goal.read_marks-requires
unfolding largest_n
read_marks-requires c = omega arith
