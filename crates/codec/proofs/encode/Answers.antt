use mathlib.Core.Path.{sym, ◌∙◌}
use native.Mathlib.Omega.{arith}
use Rattle.std.proofs.lemmas.Result.{err_from_is_err_and}
use Rattle.meaning.specs.Limits.{largest_n, record_bytes, mask_bytes}
use Rattle.meaning.proofs.Results.{refusal_stops}
use Rattle.codec.proofs.Reading.{room_for, taken_for}
use Rattle.codec.proofs.Answering.{encode_refused, accepted}
use Rattle.codec.proofs.encode.Goals as goal

pub returns-in_err-check_call : goal.returns-in_err-check_call
unfolding record_bytes mask_bytes
returns-in_err-check_call c =
    let p = err_from_is_err_and c.from_residual.result c.from_residual.ensures.1 in
    rw (p.1, p.2) (encode_refused _ _ _ _ _ _ c.count_free.ensures _ c.saturating_sub-m.ensures _ c.in_err-check_call.ensures (refusal_stops _))

pub overflow_add-k : goal.overflow_add-k
unfolding largest_n record_bytes mask_bytes
overflow_add-k c = record { fits = omega (arith, (accepted _ _ _ _ _ _ c.count_free.ensures _ c.saturating_sub-m.ensures c.in_ok-check_call.ensures).fits) }

pub slice_bounds-free-end : goal.slice_bounds-free-end
unfolding largest_n record_bytes mask_bytes
slice_bounds-free-end c = (accepted _ _ _ _ _ _ c.count_free.ensures _ c.saturating_sub-m.ensures c.in_ok-check_call.ensures).fits

pub slice_bounds-write_codeword-end : goal.slice_bounds-write_codeword-end
unfolding largest_n record_bytes mask_bytes
slice_bounds-write_codeword-end c = sym (room_for _ (accepted _ _ _ _ _ _ c.count_free.ensures _ c.saturating_sub-m.ensures c.in_ok-check_call.ensures).fits)

pub slice_bounds-write_codeword-end-2 : goal.slice_bounds-write_codeword-end-2
unfolding record_bytes mask_bytes
slice_bounds-write_codeword-end-2 c = (accepted _ _ _ _ _ _ c.count_free.ensures _ c.saturating_sub-m.ensures c.in_ok-check_call.ensures).roomy

pub slice_bounds-write_codeword-end-3 : goal.slice_bounds-write_codeword-end-3
unfolding record_bytes mask_bytes
slice_bounds-write_codeword-end-3 c = sym (taken_for _ c.args.out.now (accepted _ _ _ _ _ _ c.count_free.ensures _ c.saturating_sub-m.ensures c.in_ok-check_call.ensures).roomy)

pub write_codeword-requires : goal.write_codeword-requires
unfolding largest_n record_bytes mask_bytes
write_codeword-requires c =
    let ok = accepted _ _ _ _ _ _ c.count_free.ensures _ c.saturating_sub-m.ensures c.in_ok-check_call.ensures in
    (ok.ready _ (room_for _ ok.fits), taken_for _ c.args.out.now ok.roomy ∙ ok.length-is)

pub returns : goal.returns
unfolding record_bytes mask_bytes
returns c =
    let ok = accepted _ _ _ _ _ _ c.count_free.ensures _ c.saturating_sub-m.ensures c.in_ok-check_call.ensures in
    ok.sent c.write_codeword.new.x _ (sym (c.write_codeword.auto.x ∙ taken_for _ c.args.out.now ok.roomy)) c.write_codeword.ensures
