use mathlib.Core.Path.{sym}
use lib.ListN.{length-take}
use native.Mathlib.Omega.{arith}
use Rattle.meaning.specs.Limits.{head_bytes, strip_width}
use Rattle.meaning.specs.Stream.{answer_bytes}
use Rattle.stream.proofs.Agreeing.{agreed_terms}
use Rattle.stream.proofs.Streaming.{short, streamed, alone_room, alone, words_room, words-all}
use Rattle.stream.proofs.answer.Goals as goal

pub returns-then-out-k : goal.returns-then-out-k
unfolding answer_bytes head_bytes strip_width
returns-then-out-k c =
    let A = c.args in
    short A.sheet.now A.choice.now A.input.now A.out.now _ c.records-k.ensures c.if-out-k.true

pub words-requires : goal.words-requires
unfolding answer_bytes head_bytes strip_width
words-requires c =
    let A = c.args in
    let a = agreed_terms A.sheet.now A.choice.now c.in-Ok.t c.in-Ok.ensures in
    (a.small, words_room A.sheet.now A.choice.now A.input.now A.out.now _ c.records-k.ensures c.in-Ok.t a c.if-out-k.false)

pub slice_bounds-refuse-end : goal.slice_bounds-refuse-end
unfolding answer_bytes head_bytes strip_width
slice_bounds-refuse-end c =
    let A = c.args in
    alone_room A.sheet.now A.choice.now A.input.now A.out.now _ c.records-k.ensures c.in-Err.e c.in-Err.ensures c.if-out-k.false

pub slice_bounds-refuse-end-in-Err : goal.slice_bounds-refuse-end-in-Err
unfolding answer_bytes head_bytes strip_width
slice_bounds-refuse-end-in-Err c =
    let A = c.args in
    sym (simp length-take (omega (arith, alone_room A.sheet.now A.choice.now A.input.now A.out.now _ c.records-k.ensures c.in-Err.e c.in-Err.ensures c.if-out-k.false)))

pub refuse-requires : goal.refuse-requires
unfolding answer_bytes head_bytes strip_width
refuse-requires c =
    let A = c.args in
    simp length-take (omega (arith, alone_room A.sheet.now A.choice.now A.input.now A.out.now _ c.records-k.ensures c.in-Err.e c.in-Err.ensures c.if-out-k.false))

pub returns-in-Ok : goal.returns-in-Ok
unfolding answer_bytes head_bytes strip_width
returns-in-Ok c =
    let A = c.args in
    let a = agreed_terms A.sheet.now A.choice.now c.in-Ok.t c.in-Ok.ensures in
    streamed A.sheet.now A.choice.now A.input.now A.out.now _ c.records-k.ensures _ c.if-out-k.false (words-all A.sheet.now A.choice.now A.input.now A.out.now _ c.records-k.ensures c.in-Ok.t a _ c.words.ensures)

pub returns-in-Err : goal.returns-in-Err
unfolding answer_bytes head_bytes strip_width
returns-in-Err c =
    let A = c.args in
    streamed A.sheet.now A.choice.now A.input.now A.out.now _ c.records-k.ensures _ c.if-out-k.false (alone A.sheet.now A.choice.now A.input.now A.out.now _ c.records-k.ensures c.in-Err.e c.in-Err.ensures _ c.refuse.ensures)
