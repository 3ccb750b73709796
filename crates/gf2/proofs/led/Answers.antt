use Rattle.std.proofs.Common.{◌∙◌, rules}
use borrow.Author.Tests.{tests}
use Rattle.std.proofs.lemmas.Iterator.{YieldsList-from_slice, YieldsList-from_take}
use Rattle.std.proofs.lemmas.Iterator.Search.{any_from_yields_List}
use Rattle.gf2.proofs.Coefficients.{nonzero, led_is}
use Rattle.gf2.proofs.led.Goals as goal

pub returns : goal.returns
returns c =
    let A = c.args in
    any_from_yields_List nonzero _ _ c.any.result c.any.ensures.ran (YieldsList-from_take A.c (YieldsList-from_slice A.x.now (cc)) (cc)) (λ x b q k. search (rules, tests))
    ∙ led_is A.c A.x.now (λ k. (c.type_inv.x k).fits)
