use mathlib.Core.Path.{ap}
use mathlib.Core.Bool.{not}
use Rattle.descent.proofs.Promise.{misfit, over, allowed, found_all}
use Rattle.descent.proofs.descend.Goals as goal

pub returns-then-not-fits : goal.returns-then-not-fits
returns-then-not-fits c = misfit _ _ _ _ _ _ _ _ _ c.fits.ensures (ap not c.if-not-fits.true)

pub returns-then-most-g : goal.returns-then-most-g
returns-then-most-g c = over _ _ _ _ _ _ _ _ _ c.fits.ensures (ap not c.if-not-fits.false) _ c.unknowns-g.ensures c.if-most-g.true

pub run-m-requires : goal.run-m-requires
run-m-requires c =
    let A = c.args in
    let (R, few) = allowed _ _ _ _ _ _ A.vals.now A.us.now A.eqs.now c.fits.ensures (ap not c.if-not-fits.false) _ c.unknowns-g.ensures c.if-most-g.false in
    record { ready = R; word_bound = few }

pub returns : goal.returns
returns c = found_all _ _ _ _ _ _ _ _ _ c.fits.ensures (ap not c.if-not-fits.false) _ c.unknowns-g.ensures c.if-most-g.false _ _ _ _ c.run-m.ensures
