use Rattle.std.proofs.Common.{arith}
use Rattle.meaning.specs.Limits.{largest_n, record_bytes, mask_bytes}
use Rattle.recover.specs.Runs.{choice_bytes}
use Rattle.recover.proofs.main.Goals as goal

pub read_sheet-requires : goal.read_sheet-requires
unfolding record_bytes mask_bytes largest_n
read_sheet-requires c = omega arith

pub read_choice-requires : goal.read_choice-requires
unfolding choice_bytes
read_choice-requires c = omega arith
