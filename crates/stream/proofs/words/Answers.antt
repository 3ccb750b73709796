use mathlib.Core.Path.{◌≡◌, refl, ap, ◌∙◌}
use mathlib.Core.List.{flatten}
use native.Mathlib.Omega.{arith}
use lib.ListN.{length, length-take, length-drop}
use lib.Pow.{pow_pos}
use mathlib.Core.Logic.{inl}
use Rattle.std.specs.Slice.Iter.{chunks_rest, chunks_size}
use Rattle.bits.proofs.Records.{put_record}
use Rattle.sheet.proofs.Shapes.{positions-all}
use Rattle.meaning.specs.Limits.{head_bytes, strip_width}
use Rattle.meaning.specs.Stream.{answer_bytes, answer_record}
use Rattle.stream.proofs.Streaming.{record_at, record_long}
use Rattle.stream.proofs.Turns.{taken_none, taken_next, taken_all, row_room}
use Rattle.stream.proofs.words.Goals as goal

pub chunks-requires : goal.chunks-requires
chunks-requires c = omega (arith, pow_pos c.args.t.n, c.size-size.ensures ∙ positions-all _ c.requires.0)

pub loop-i-init : goal.loop-i-init
unfolding flatten answer_bytes
loop-i-init c =
    let z = ap (λ it. it.count) c.into_iter-i-iterator.ensures.into_iter_gives ∙ c.enumerate-i-items.ensures.count in record {
      taken = taken_none _ _ _ _ c.chunks.ensures.rest (c.chunks.ensures.size ∙ c.size-size.ensures ∙ positions-all _ c.requires.0) (ap (λ it. it.iter) c.into_iter-i-iterator.ensures.into_iter_gives ∙ c.enumerate-i-items.ensures.source) z;
      room = refl;
      written = rw z refl;
    }

pub overflow_mul-to : goal.overflow_mul-to
unfolding answer_bytes head_bytes strip_width
overflow_mul-to c =
    omega (arith, row_room _ _ answer_bytes _ (taken_next _ _ (omega (arith, pow_pos c.args.t.n)) c.loop-i.i-iterator c.next.new.self c.loop-i.invariant.taken c.in-Some.i c.in-Some.word c.in-Some.ensures.steps).more c.requires.1)

pub overflow_add-place : goal.overflow_add-place
unfolding answer_bytes head_bytes strip_width
overflow_add-place c =
    omega (arith, row_room _ _ answer_bytes _ (taken_next _ _ (omega (arith, pow_pos c.args.t.n)) c.loop-i.i-iterator c.next.new.self c.loop-i.invariant.taken c.in-Some.i c.in-Some.word c.in-Some.ensures.steps).more c.requires.1)

pub slice_bounds-place-end : goal.slice_bounds-place-end
unfolding answer_bytes head_bytes strip_width
slice_bounds-place-end c =
    omega (arith, row_room _ _ answer_bytes _ (taken_next _ _ (omega (arith, pow_pos c.args.t.n)) c.loop-i.i-iterator c.next.new.self c.loop-i.invariant.taken c.in-Some.i c.in-Some.word c.in-Some.ensures.steps).more c.requires.1, c.loop-i.invariant.room)

pub answer-requires : goal.answer-requires
unfolding answer_bytes head_bytes strip_width
answer-requires c =
    (c.requires.0, simp (length-take, length-drop) (omega (arith, row_room _ _ answer_bytes _ (taken_next _ _ (omega (arith, pow_pos c.args.t.n)) c.loop-i.i-iterator c.next.new.self c.loop-i.invariant.taken c.in-Some.i c.in-Some.word c.in-Some.ensures.steps).more c.requires.1, c.loop-i.invariant.room)))

pub loop-i-preserved : goal.loop-i-preserved
unfolding answer_bytes head_bytes strip_width
loop-i-preserved c =
    let A = c.args in
    let t = A.t in
    let inv = c.loop-i.invariant in
    let n = taken_next _ _ (omega (arith, pow_pos t.n)) c.loop-i.i-iterator c.next.new.self inv.taken c.in-Some.i c.in-Some.word c.in-Some.ensures.steps in
    let x : c.answer.new.out ≡ record_at t.n A.sheet.now t.r t.ceiling A.input.now c.in-Some.i = c.answer.ensures ∙ ap (answer_record t.n A.sheet.now t.r t.ceiling) n.piece in
    record {
      taken = n.taken;
      room = omega (arith, inv.room);
      written = rw n.up (put_record answer_bytes (record_at t.n A.sheet.now t.r t.ceiling A.input.now) (λ i. record_long t.n A.sheet.now t.r t.ceiling _ c.requires.0) A.out.now c.in-Some.i c.loop-i.out _ (rw n.at at inv.written) x);
    }

pub returns : goal.returns
returns c = rw (taken_all _ _ (omega (arith, pow_pos c.args.t.n)) c.loop-i.i-iterator c.next.new.self c.loop-i.invariant.taken c.in-None.ensures.steps) at c.loop-i.invariant.written

pub loop-i-init-derived : goal.loop-i-init-derived
loop-i-init-derived c =
    let e = ap (λ it. it.iter) c.into_iter-i-iterator.ensures.into_iter_gives ∙ c.enumerate-i-items.ensures.source in
    let z = ap (λ it. it.count) c.into_iter-i-iterator.ensures.into_iter_gives ∙ c.enumerate-i-items.ensures.count in
    let sized = ap chunks_size e ∙ c.chunks.ensures.size ∙ c.size-size.ensures ∙ positions-all _ c.requires.0 in
    let left = ap (λ cs. length (chunks_rest cs)) e ∙ ap length c.chunks.ensures.rest in
    ((omega (arith, sized, pow_pos c.args.t.n), tt, inl (omega (arith, z, left))), tt)
