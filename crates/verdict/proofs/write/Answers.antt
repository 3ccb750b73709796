use Rattle.std.proofs.Common.{rules}
use Rattle.verdict.proofs.Assembling.{written}
use Rattle.verdict.proofs.write.Goals as goal

pub returns : goal.returns
returns c =
    let V = c.args.vals in
    rw c.len-n.ensures
    (written V.c V.w V.words.now c.args.out.now c.split_at_mut-first.result.1.now c.write.new.out c.write-2.new.out c.write-3.new.out (search rules)
    (search rules) (search rules) (search rules)
    (λ j h. search rules) (λ j h. search rules) (λ j h. search rules))
