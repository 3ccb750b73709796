use mathlib.Core.Path.{sym, ◌∙◌}
use Rattle.system.proofs.Promise.{misfit}
use Rattle.system.proofs.solve.Goals as goal

pub returns-then-not-spaced : goal.returns-then-not-spaced
returns-then-not-spaced c = let A = c.args in misfit A.t.n A.t.r A.t.most A.t.coeffs A.t.words A.sheet.now A.word.now A.vals.now A.us.now A.eqs.now (sym c.spaced.ensures ∙ c.if-not-spaced.true)
