use mathlib.Core.Path.{ap, ◌∙◌}
use Rattle.meaning.specs.Answers.{Reply}
use Rattle.meaning.specs.Stream.{header}
use Rattle.strip_stream.proofs.Writing.{put_whole, replied}
use Rattle.strip_stream.proofs.one.Goals as goal

pub returns : goal.returns
returns c =
    let A = c.args in
    let t = A.t in
    let reply = replied t.n A.sheet.now t.r t.ceiling A.lost.now A.strip.now A.part.now _ _ _ c.requires.0 (c.fill.ensures.after (λ y h. h)) c.repair-verdict.ensures in
    record { part_after = ap (λ (t : Reply). t.bytes) reply; head_after = put_whole _ A.head.now _ c.requires.1 c.put.ensures ∙ ap header c.from.ensures ∙ ap (λ (t : Reply). header t.answer) reply }
