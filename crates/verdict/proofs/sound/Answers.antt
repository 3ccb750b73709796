use Rattle.std.proofs.Common.{rules, ◌∙◌}
use Rattle.std.proofs.lemmas.Iterator.Search.{all_from_yields_List}
use borrow.Author.Tests.{tests}
use Rattle.verdict.specs.Words.{agreeable}
use Rattle.verdict.proofs.Cutting.{each-row, all-same}
use Rattle.verdict.proofs.sound.Goals as goal

pub returns : goal.returns
returns c =
    let A = c.args.eqs in
    all_from_yields_List (agreeable A.c) _ _ _ c.all.ensures.ran (each-row A.w A.words.now A.some c.iter.ensures.size c.iter.ensures.rest) (λ x b q k. search (rules, tests))
    ∙ all-same (agreeable A.c) _
