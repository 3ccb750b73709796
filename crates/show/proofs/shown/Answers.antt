use borrow.Author.Tests.{eq-eqb, ne_eqb}
use Rattle.meaning.specs.Limits.{head_bytes, strip_width}
use Rattle.meaning.specs.Stream.{answer_bytes}
use Rattle.show.specs.Turn.{written}
use borrow.Author.Rules.{rules}
use Rattle.show.proofs.shown.Goals as goal

pub returns-then-got-eq-ANSWER : goal.returns-then-got-eq-ANSWER
unfolding written answer_bytes head_bytes strip_width
returns-then-got-eq-ANSWER c = let l = c.line.ensures in rw (eq-eqb c.args.got answer_bytes c.if-got-eq-ANSWER.true) (l.1, l.2)

pub returns-else-got-eq-ANSWER : goal.returns-else-got-eq-ANSWER
unfolding written answer_bytes head_bytes strip_width
returns-else-got-eq-ANSWER c = rw (ne_eqb c.args.got answer_bytes c.if-got-eq-ANSWER.false) (search rules)
