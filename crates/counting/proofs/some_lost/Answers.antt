use mathlib.Core.Path.{◌∙◌}
use Rattle.std.proofs.lemmas.Iterator.{YieldsList-from_slice}
use Rattle.std.proofs.lemmas.Iterator.Search.{any_from_yields_List}
use Rattle.std.proofs.Common.{rules}
use lib.Dec.{ltb}
use borrow.Author.Tests.{tests}
use Rattle.counting.proofs.Counting.{lost_any}
use Rattle.counting.proofs.some_lost.Goals as goal

pub returns : goal.returns
returns c =
    any_from_yields_List (λ a. ltb 1 a) _ _ _ c.any.ensures.ran (YieldsList-from_slice c.args.marks.now cc) (λ x b q k. search (rules, tests)) ∙ lost_any c.args.marks.now
