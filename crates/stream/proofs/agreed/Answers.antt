use Rattle.meaning.specs.Limits.{largest_n}
use Rattle.stream.proofs.Agreeing.{none_shape, none_choice, some_terms}
use Rattle.stream.proofs.agreed.Goals as goal

pub returns-then-n-gt-LARGEST_N : goal.returns-then-n-gt-LARGEST_N
unfolding largest_n
returns-then-n-gt-LARGEST_N c = none_shape c.args.sheet.now c.args.choice.now _ c.n_of-n.ensures c.if-n-gt-LARGEST_N.true

pub returns-then-choice-ne2 : goal.returns-then-choice-ne2
unfolding largest_n
returns-then-choice-ne2 c = none_choice c.args.sheet.now c.args.choice.now _ c.n_of-n.ensures c.if-n-gt-LARGEST_N.false c.if-choice-ne2.true

pub returns : goal.returns
unfolding largest_n
returns c = some_terms c.args.sheet.now c.args.choice.now _ c.n_of-n.ensures c.if-n-gt-LARGEST_N.false c.if-choice-ne2.false _ _ c.from.ensures c.from-2.ensures
