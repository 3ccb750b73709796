use mathlib.Core.Path.{sym, ap, ◌∙◌}
use Prim.Native.Nat.{ℕ, ◌+◌, ◌*◌}
use native.Mathlib.Omega.{arith}
use borrow.Author.Tests.{not-true, not-false}
use lib.ListN.{length}
use Rattle.sheet.proofs.Shapes.{positions-all}
use Rattle.checks.proofs.Testing.{ready}
use Rattle.checks.proofs.Promise.{part-size, part_length, part-rows, left_alone, appended}
use mathlib.Core.Bool.{not}
use Rattle.checks.proofs.check_rows.Goals as goal

pub returns-then-not-fits : goal.returns-then-not-fits
returns-then-not-fits c = left_alone _ _ _ _ _ _ _ _ (sym c.fits.ensures ∙ not-true _ (ap not c.if-not-fits.true))

pub overflow_mul-from : goal.overflow_mul-from
overflow_mul-from c =
    let A = c.args in
    let R = ready A.n (length A.sheet.now) A.r A.c A.w (length A.us.now) A.m (length A.eqs.now) (sym c.fits.ensures ∙ not-false _ (ap not c.if-not-fits.false)) in
    omega (arith, R.room, part-size A.m A.r A.w)

pub overflow_add-to : goal.overflow_add-to
overflow_add-to c =
    let A = c.args in
    let R = ready A.n (length A.sheet.now) A.r A.c A.w (length A.us.now) A.m (length A.eqs.now) (sym c.fits.ensures ∙ not-false _ (ap not c.if-not-fits.false)) in
    omega (arith, part-rows (A.m + A.r) A.c A.w (length A.eqs.now) R.constant R.room)

pub overflow_mul-to : goal.overflow_mul-to
overflow_mul-to c =
    let A = c.args in
    let R = ready A.n (length A.sheet.now) A.r A.c A.w (length A.us.now) A.m (length A.eqs.now) (sym c.fits.ensures ∙ not-false _ (ap not c.if-not-fits.false)) in
    omega (arith, R.room)

pub offset_bounds-eqs-from : goal.offset_bounds-eqs-from
offset_bounds-eqs-from c =
    let A = c.args in
    let R = ready A.n (length A.sheet.now) A.r A.c A.w (length A.us.now) A.m (length A.eqs.now) (sym c.fits.ensures ∙ not-false _ (ap not c.if-not-fits.false)) in
    omega (arith, R.room, part-size A.m A.r A.w)

pub slice_bounds-write-end : goal.slice_bounds-write-end
slice_bounds-write-end c =
    let A = c.args in
    let R = ready A.n (length A.sheet.now) A.r A.c A.w (length A.us.now) A.m (length A.eqs.now) (sym c.fits.ensures ∙ not-false _ (ap not c.if-not-fits.false)) in
    R.room

pub write-requires : goal.write-requires
write-requires c =
    let A = c.args in
    let R = ready A.n (length A.sheet.now) A.r A.c A.w (length A.us.now) A.m (length A.eqs.now) (sym c.fits.ensures ∙ not-false _ (ap not c.if-not-fits.false)) in
    (R.known, R.rows_u ∙ ap (λ (x : ℕ). x * A.w) (sym (c.size-size.ensures ∙ positions-all A.n R.small)), part_length A.m A.r A.w A.eqs.now R.room)

pub returns : goal.returns
returns c =
    let A = c.args in
    let h = sym c.fits.ensures ∙ not-false _ (ap not c.if-not-fits.false) in
    let R = ready A.n (length A.sheet.now) A.r A.c A.w (length A.us.now) A.m (length A.eqs.now) h in
    let W = c.write in
    appended _ _ _ _ _ _ _ _ h _ (c.size-size.ensures ∙ positions-all A.n R.small) W.new.out (W.auto.out ∙ part_length A.m A.r A.w A.eqs.now R.room) W.ensures
