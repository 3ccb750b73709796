use mathlib.Core.Path.{sym, ◌∙◌}
use Rattle.std.proofs.lemmas.Result.{err_from_is_err_and}
use Rattle.meaning.specs.Limits.{largest_n, record_bytes, mask_bytes}
use Rattle.meaning.proofs.Results.{refusal_stops}
use Rattle.codec.proofs.Reading.{room_for, low_in_room}
use Rattle.codec.proofs.Answering.{read_refused, reads}
use Rattle.codec.proofs.read_back.Goals as goal

pub returns-in_err-check_call : goal.returns-in_err-check_call
unfolding record_bytes mask_bytes
returns-in_err-check_call c =
    let p = err_from_is_err_and c.from_residual.result c.from_residual.ensures.1 in
    rw (p.1, p.2) (read_refused _ _ _ _ _ _ c.count_free-k.ensures _ c.saturating_sub-m.ensures _ c.in_err-check_call.ensures (refusal_stops _))

pub slice_bounds-u-end : goal.slice_bounds-u-end
unfolding largest_n record_bytes mask_bytes
slice_bounds-u-end c = (reads _ _ _ _ _ _ c.count_free-k.ensures _ c.saturating_sub-m.ensures c.in_ok-check_call.ensures).low

pub slice_bounds-extract-end : goal.slice_bounds-extract-end
unfolding largest_n record_bytes mask_bytes
slice_bounds-extract-end c = sym (room_for _ (reads _ _ _ _ _ _ c.count_free-k.ensures _ c.saturating_sub-m.ensures c.in_ok-check_call.ensures).low)

pub slice_bounds-free-end : goal.slice_bounds-free-end
unfolding largest_n record_bytes mask_bytes
slice_bounds-free-end c = (reads _ _ _ _ _ _ c.count_free-k.ensures _ c.saturating_sub-m.ensures c.in_ok-check_call.ensures).fits

pub slice_bounds-extract-end-2 : goal.slice_bounds-extract-end-2
unfolding largest_n record_bytes mask_bytes
slice_bounds-extract-end-2 c = sym (room_for _ (reads _ _ _ _ _ _ c.count_free-k.ensures _ c.saturating_sub-m.ensures c.in_ok-check_call.ensures).fits)

pub extract-whole-requires : goal.extract-whole-requires
unfolding largest_n record_bytes mask_bytes
extract-whole-requires c =
    let ok = reads _ _ _ _ _ _ c.count_free-k.ensures _ c.saturating_sub-m.ensures c.in_ok-check_call.ensures in
    record { legible = (ok.legible _ (room_for _ ok.fits), room_for _ ok.low ∙ ok.long); m_in_bounds = (low_in_room _ _ _ c.saturating_sub-m.ensures ok.fits, rw c.saturating_sub-m.ensures ok.roomy) }

pub returns : goal.returns
unfolding record_bytes mask_bytes
returns c =
    let ok = reads _ _ _ _ _ _ c.count_free-k.ensures _ c.saturating_sub-m.ensures c.in_ok-check_call.ensures in
    ok.told _ _ (rw c.saturating_sub-m.ensures at c.extract-whole.ensures)
