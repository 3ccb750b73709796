use mathlib.Core.Path.{sym, ap, ◌∙◌}
use mathlib.Core.List.{List, ◌++◌}
use Prim.Native.Nat.{ℕ, ◌*◌}
use lib.ListN.{length, length-take}
use Rattle.meaning.specs.Limits.{strip_width}
use Rattle.meaning.specs.Stream.{header}
use Rattle.sheet.proofs.Shapes.{positions-all}
use Rattle.stream.proofs.Laying.{word_fits, part_blank, answered_long, recorded}
use native.Mathlib.Omega.{arith}
use Rattle.stream.proofs.record.answer.Goals as goal

pub overflow_mul-room : goal.overflow_mul-room
unfolding strip_width
overflow_mul-room c = omega (arith, word_fits c.args.t.n _ c.requires.0 (c.size-size.ensures ∙ positions-all _ c.requires.0))

pub slice_bounds-room-end : goal.slice_bounds-room-end
unfolding strip_width
slice_bounds-room-end c = omega (arith, word_fits c.args.t.n _ c.requires.0 (c.size-size.ensures ∙ positions-all _ c.requires.0), ap length c.blank-room.ensures)

pub slice_bounds-found-end : goal.slice_bounds-found-end
unfolding strip_width
slice_bounds-found-end c = sym (simp length-take (omega (arith, word_fits c.args.t.n _ c.requires.0 (c.size-size.ensures ∙ positions-all _ c.requires.0), ap length c.blank-room.ensures)))

pub lay-requires : goal.lay-requires
lay-requires c =
    let t = c.args.t in
    let e = c.size-size.ensures ∙ positions-all t.n c.requires.0 in
    let w = word_fits t.n _ c.requires.0 e in
    let b = part_blank _ _ _ c.blank-room.ensures w e in
    (answered_long t.n c.args.sheet.now t.r t.ceiling c.args.word.now _ _ _ c.decode-verdict.ensures b ∙ ap (λ (k : ℕ). 3 * k) (sym e), w, c.blank-strips.ensures)

pub returns : goal.returns
returns c =
    let t = c.args.t in
    let e = c.size-size.ensures ∙ positions-all t.n c.requires.0 in
    let w = word_fits t.n _ c.requires.0 e in
    let b = part_blank _ _ _ c.blank-room.ensures w e in
    c.put.ensures ∙ ap (λ (l : List ℕ). header c.from.result ++ l) c.lay.ensures ∙ rw c.from.ensures (recorded t.n c.args.sheet.now t.r t.ceiling c.args.word.now _ _ _ c.decode-verdict.ensures b _ e)
