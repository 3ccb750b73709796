use mathlib.Core.Path.{refl, sym}
use native.Mathlib.Omega.{arith}
use borrow.Author.Tests.{lt-ltb, le-ltb}
use Rattle.meaning.specs.Limits.{record_bytes, mask_bytes, old_record_bytes, old_mask_bytes}
use Rattle.sheet_convert.specs.Conversion.{wide_at}
use Rattle.sheet_convert.proofs.byte_at.Goals as goal

pub returns-then-k-ge-OLD_RECORD : goal.returns-then-k-ge-OLD_RECORD
unfolding wide_at record_bytes mask_bytes old_record_bytes old_mask_bytes
returns-then-k-ge-OLD_RECORD c = sym (rw (le-ltb _ old_record_bytes c.if-k-ge-OLD_RECORD.true) refl)

pub overflow_mul-result : goal.overflow_mul-result
unfolding record_bytes mask_bytes old_record_bytes old_mask_bytes
overflow_mul-result c = omega (arith, c.requires)

pub overflow_add-result : goal.overflow_add-result
unfolding record_bytes mask_bytes old_record_bytes old_mask_bytes
overflow_add-result c = omega (arith, c.requires, c.if-k-ge-OLD_RECORD.false)

pub bounds-old-p : goal.bounds-old-p
unfolding record_bytes mask_bytes old_record_bytes old_mask_bytes
bounds-old-p c = omega (arith, c.requires, c.if-k-ge-OLD_RECORD.false)

pub returns : goal.returns
unfolding wide_at record_bytes mask_bytes old_record_bytes old_mask_bytes
returns c = sym (rw (lt-ltb _ old_record_bytes c.if-k-ge-OLD_RECORD.false) refl)
