use mathlib.Core.Path.{◌≡◌, refl, sym, ap, ◌∙◌}
use mathlib.Core.List.{List, flatten}
use Prim.Native.Nat.{ℕ, ◌*◌}
use native.Mathlib.Omega.{arith}
use lib.ListN.{length, drop, length-take, length-drop}
use mathlib.Core.Logic.{inl}
use Rattle.std.specs.Slice.Iter.{chunks_rest, chunks_size}
use Rattle.bits.proofs.Records.{put_record}
use Rattle.meaning.specs.Limits.{head_bytes}
use Rattle.meaning.specs.Stream.{header}
use Rattle.meaning.proofs.Heading.{header-long}
use Rattle.stream.proofs.Turns.{taken_none, taken_next, taken_all}
use Rattle.strip_stream.specs.Strips.{strip_reply}
use Rattle.strip_stream.proofs.Cases.{strip-pos, reply-long}
use Rattle.strip_stream.proofs.Turns.{reply, part, head, room_for}
use Rattle.strip_stream.proofs.each.Goals as goal

pub chunks-requires : goal.chunks-requires
chunks-requires c = omega (arith, strip-pos c.args.t.n, c.strip_bytes-size.ensures)

pub loop-i-init : goal.loop-i-init
unfolding flatten head_bytes
loop-i-init c =
    let z = ap (λ it. it.count) c.into_iter-i-iterator.ensures.into_iter_gives ∙ c.enumerate-i-items.ensures.count in record {
      taken = taken_none _ _ _ _ c.chunks.ensures.rest (c.chunks.ensures.size ∙ c.strip_bytes-size.ensures) (ap (λ it. it.iter) c.into_iter-i-iterator.ensures.into_iter_gives ∙ c.enumerate-i-items.ensures.source) z;
      repaired_room = refl;
      records_room = refl;
      repaired_so_far = rw z (ap (λ (j : ℕ). drop j c.args.repaired.now) (let e : 0 ≡ 0 * c.part_bytes-room.result = omega arith in e));
      records_so_far = rw z refl;
    }

pub overflow_mul-to : goal.overflow_mul-to
overflow_mul-to c = omega (arith, room_for c.args.t.n c.part_bytes-room.result c.in-Some.i _ _ c.part_bytes-room.ensures (taken_next _ _ (strip-pos c.args.t.n) c.loop-i.i-iterator c.next.new.self c.loop-i.invariant.taken c.in-Some.i c.in-Some.strip c.in-Some.ensures.steps).more c.requires.n_in_bounds.0, c.loop-i.invariant.repaired_room)

pub overflow_mul-at : goal.overflow_mul-at
unfolding head_bytes
overflow_mul-at c = omega (arith, (taken_next _ _ (strip-pos c.args.t.n) c.loop-i.i-iterator c.next.new.self c.loop-i.invariant.taken c.in-Some.i c.in-Some.strip c.in-Some.ensures.steps).more, c.requires.n_in_bounds.1)

pub overflow_add-part : goal.overflow_add-part
overflow_add-part c = omega (arith, room_for c.args.t.n c.part_bytes-room.result c.in-Some.i _ _ c.part_bytes-room.ensures (taken_next _ _ (strip-pos c.args.t.n) c.loop-i.i-iterator c.next.new.self c.loop-i.invariant.taken c.in-Some.i c.in-Some.strip c.in-Some.ensures.steps).more c.requires.n_in_bounds.0, c.loop-i.invariant.repaired_room)

pub slice_bounds-part-end : goal.slice_bounds-part-end
slice_bounds-part-end c = omega (arith, room_for c.args.t.n c.part_bytes-room.result c.in-Some.i _ _ c.part_bytes-room.ensures (taken_next _ _ (strip-pos c.args.t.n) c.loop-i.i-iterator c.next.new.self c.loop-i.invariant.taken c.in-Some.i c.in-Some.strip c.in-Some.ensures.steps).more c.requires.n_in_bounds.0, c.loop-i.invariant.repaired_room)

pub overflow_add-head : goal.overflow_add-head
unfolding head_bytes
overflow_add-head c = omega (arith, (taken_next _ _ (strip-pos c.args.t.n) c.loop-i.i-iterator c.next.new.self c.loop-i.invariant.taken c.in-Some.i c.in-Some.strip c.in-Some.ensures.steps).more, c.requires.n_in_bounds.1)

pub slice_bounds-head-end : goal.slice_bounds-head-end
unfolding head_bytes
slice_bounds-head-end c = omega (arith, (taken_next _ _ (strip-pos c.args.t.n) c.loop-i.i-iterator c.next.new.self c.loop-i.invariant.taken c.in-Some.i c.in-Some.strip c.in-Some.ensures.steps).more, c.loop-i.invariant.records_room, c.requires.n_in_bounds.1)

pub one-requires : goal.one-requires
unfolding head_bytes
one-requires c =
    let more = (taken_next _ _ (strip-pos c.args.t.n) c.loop-i.i-iterator c.next.new.self c.loop-i.invariant.taken c.in-Some.i c.in-Some.strip c.in-Some.ensures.steps).more in (
      simp (length-take, length-drop) (omega (arith, room_for c.args.t.n c.part_bytes-room.result c.in-Some.i _ _ c.part_bytes-room.ensures more c.requires.n_in_bounds.0, c.loop-i.invariant.repaired_room)) ∙ c.part_bytes-room.ensures,
      simp (length-take, length-drop) (omega (arith, more, c.loop-i.invariant.records_room, c.requires.n_in_bounds.1)),
    )

pub loop-i-preserved : goal.loop-i-preserved
unfolding head_bytes
loop-i-preserved c =
    let A = c.args in
    let t = A.t in
    let i = c.in-Some.i in
    let inv = c.loop-i.invariant in
    let n = (taken_next _ _ (strip-pos c.args.t.n) c.loop-i.i-iterator c.next.new.self c.loop-i.invariant.taken c.in-Some.i c.in-Some.strip c.in-Some.ensures.steps) in record {
      taken = n.taken;
      repaired_room = omega (arith, inv.repaired_room);
      records_room = omega (arith, inv.records_room);
      repaired_so_far =
          rw n.up (put_record c.part_bytes-room.result (part t A.sheet.now A.lost.now A.input.now) (λ i. reply-long t.n A.sheet.now t.r t.ceiling A.lost.now _ ∙ sym c.part_bytes-room.ensures) A.repaired.now i c.loop-i.repaired _
          (rw n.at at inv.repaired_so_far) (c.one.ensures.part_after ∙ ap (λ (w : List ℕ). (strip_reply t.n A.sheet.now t.r t.ceiling A.lost.now w).bytes) n.piece));
      records_so_far =
          rw n.up (put_record head_bytes (head t A.sheet.now A.lost.now A.input.now) (λ i. header-long (reply t A.sheet.now A.lost.now A.input.now i).answer) A.records.now i c.loop-i.records _
          (rw n.at at inv.records_so_far) (c.one.ensures.head_after ∙ ap (λ (w : List ℕ). header (strip_reply t.n A.sheet.now t.r t.ceiling A.lost.now w).answer) n.piece));
    }

pub returns : goal.returns
unfolding head_bytes
returns c =
    let e = taken_all _ _ (strip-pos c.args.t.n) c.loop-i.i-iterator c.next.new.self c.loop-i.invariant.taken c.in-None.ensures.steps in
    record { repaired_after = rw (e, c.part_bytes-room.ensures) at c.loop-i.invariant.repaired_so_far; records_after = rw e at c.loop-i.invariant.records_so_far }

pub loop-i-init-derived : goal.loop-i-init-derived
loop-i-init-derived c =
    let e = ap (λ it. it.iter) c.into_iter-i-iterator.ensures.into_iter_gives ∙ c.enumerate-i-items.ensures.source in
    let z = ap (λ it. it.count) c.into_iter-i-iterator.ensures.into_iter_gives ∙ c.enumerate-i-items.ensures.count in
    let sized = ap chunks_size e ∙ c.chunks.ensures.size ∙ c.strip_bytes-size.ensures in
    let left = ap (λ cs. length (chunks_rest cs)) e ∙ ap length c.chunks.ensures.rest in
    ((omega (arith, sized, strip-pos c.args.t.n), tt, inl (omega (arith, z, left))), tt)
