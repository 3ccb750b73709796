use Rattle.std.proofs.Common.{arith}
use Rattle.meaning.specs.Limits.{record_bytes, mask_bytes}
use Rattle.sheet.proofs.Records.{one_free, one_frozen, all-counted}
use Rattle.sheet.proofs.count_free.Goals as goal
use Rattle.sheet.proofs.count_free.Goals.{then-is_free, else-is_free}

pub loop-i-preserved : goal.loop-i-preserved
unfolding record_bytes mask_bytes
loop-i-preserved c =
    let inv = c.loop-i.invariant in
    elim c.if-is_free.branch [
      | then-is_free w ↦ (omega arith, rw w.k-is (one_free _ _ _ (omega arith) c.is_free.ensures w.if-is_free.true _ inv.1))
      | else-is_free w ↦ (omega arith, rw w.k-is (one_frozen _ _ _ (omega arith) c.is_free.ensures w.if-is_free.false _ inv.1))
    ]

pub returns : goal.returns
unfolding record_bytes mask_bytes
returns c = all-counted _ _ _ c.loop-i-test.false _ c.loop-i.invariant.1
