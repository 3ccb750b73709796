use mathlib.Core.Path.{◌≡◌, sym, ◌∙◌}
use borrow.Author.Rules.{rules}
use Rattle.show.specs.Line.{no_answer, plain_of, refusal_of}
use Rattle.show.proofs.Writing.{spelt}
use Rattle.show.proofs.line.Numbers.refusal.Goals as goal

pub returns-in-None : goal.returns-in-None
unfolding refusal_of no_answer
returns-in-None c =
    let a = c.args.self.now in
    let w = c.with_number-in-None.ensures in
    let e : plain_of a.code ≡ refusal_of a.code a.place a.g = search rules in
    (spelt w.0 (sym c.in-None.ensures ∙ e), w.1)
