use Rattle.std.proofs.Common.{rules}
use Rattle.lanes.proofs.Spelling.{repaired-is}
use Rattle.lanes.proofs.fill.write.Goals as goal

pub returns : goal.returns
returns c =
    let V = c.args.vals in
    rw (c.len-n.ensures, c.records.ensures) (repaired-is V.c V.w V.words.now c.args.out.now c.split_at_mut-front.result.1.now c.marks.new.out (search rules) c.marks.ensures)
