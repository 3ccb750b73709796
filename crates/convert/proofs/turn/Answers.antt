use Rattle.std.proofs.Common.{refl, sym, arith}
use lib.Seq.{length-take-le}
use Rattle.meaning.specs.Limits.{record_bytes, mask_bytes, old_record_bytes, old_mask_bytes}
use Rattle.sheet_convert.proofs.Promise.{new-fits}
use Rattle.convert.proofs.turn.Goals as goal

pub overflow_mul-k : goal.overflow_mul-k
unfolding record_bytes mask_bytes old_record_bytes old_mask_bytes
overflow_mul-k c = omega (arith, new-fits _ _ _ _ _ c.in-Ok.ensures refl)

pub slice_bounds-write-end-in-Ok : goal.slice_bounds-write-end-in-Ok
unfolding record_bytes mask_bytes old_record_bytes old_mask_bytes
slice_bounds-write-end-in-Ok c = let h = new-fits _ _ _ _ _ c.in-Ok.ensures refl in sym (length-take-le _ _ (omega (arith, h)))

pub slice_bounds-write-end : goal.slice_bounds-write-end
unfolding record_bytes mask_bytes old_record_bytes old_mask_bytes
slice_bounds-write-end c = omega (arith, new-fits _ _ _ _ _ c.in-Ok.ensures refl)
