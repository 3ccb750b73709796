use Rattle.std.proofs.Common.{ap}
use mathlib.Core.Bool.{not}
use Rattle.meaning.specs.Limits.{record_bytes, mask_bytes}
use Rattle.sheet.proofs.Checking.{bad_shape_lem, bad_record_lem, holds-nothing, bad_check_lem, done}
use Rattle.sheet.proofs.check_sheet.Goals as goal

pub returns-then-not-recorded : goal.returns-then-not-recorded
returns-then-not-recorded c = bad_shape_lem _ _ _ c.recorded.ensures (ap not c.if-not-recorded.true)

pub returns-in-Some : goal.returns-in-Some
unfolding record_bytes mask_bytes
returns-in-Some c = let f = c.in-Some.ensures in bad_record_lem _ _ _ c.recorded.ensures (ap not c.if-not-recorded.false) _ f.0 f.1

pub returns-then-k-eq0 : goal.returns-then-k-eq0
unfolding record_bytes mask_bytes
returns-then-k-eq0 c =
    holds-nothing _ _ _ c.recorded.ensures (ap not c.if-not-recorded.false) c.in_default.ensures _ c.count_free-k.ensures c.if-k-eq0.true

pub returns-then-bad : goal.returns-then-bad
unfolding record_bytes mask_bytes
returns-then-bad c =
    bad_check_lem _ _ _ c.recorded.ensures (ap not c.if-not-recorded.false) c.in_default.ensures _ c.count_free-k.ensures c.if-k-eq0.false
    _ c.bad_check-bad.ensures c.if-bad.true

pub returns : goal.returns
unfolding record_bytes mask_bytes
returns c =
    done _ _ _ c.recorded.ensures (ap not c.if-not-recorded.false) c.in_default.ensures _ c.count_free-k.ensures c.if-k-eq0.false
    _ c.bad_check-bad.ensures c.if-bad.false
