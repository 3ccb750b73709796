use mathlib.Core.Path.{sym, ◌∙◌}
use Prim.Native.Nat.{◌+◌, ◌-◌}
use native.Mathlib.Omega.{arith}
use lib.Dec.{eqb}
use Rattle.std.proofs.lemmas.Slice.{put_mid-paste}
use Rattle.meaning.specs.Sheet.{byte}
use Rattle.ruling.proofs.Rules.{rule_wide}
use Rattle.ruling.proofs.Room.{room, part_wide, ruled-is, ruled-not}
use Rattle.ruling.proofs.rule_row.Goals as goal

pub overflow_add-to : goal.overflow_add-to
overflow_add-to c = let t = room _ _ _ _ _ _ _ (sym c.fits.ensures ∙ c.if-fits.true) in omega (arith, c.well_formed)

pub offset_bounds-d-to : goal.offset_bounds-d-to
offset_bounds-d-to c = let t = room _ _ _ _ _ _ _ (sym c.fits.ensures ∙ c.if-fits.true) in omega (arith, c.well_formed)

pub slice_bounds-ruled_row-end : goal.slice_bounds-ruled_row-end
slice_bounds-ruled_row-end c = let t = room _ _ _ _ _ _ _ (sym c.fits.ensures ∙ c.if-fits.true) in t.0.0

pub invariant_of-record : goal.invariant_of-record
invariant_of-record c = let t = room _ _ _ _ _ _ _ (sym c.fits.ensures ∙ c.if-fits.true) in record { few = t.1.0; there = t.1.1 }

pub ruled_row-requires : goal.ruled_row-requires
ruled_row-requires c =
    let A = c.args in
    let t = room _ _ _ _ _ _ _ (sym c.fits.ensures ∙ c.if-fits.true) in
    let e = part_wide A.d.now A.to A.w t.0.0 in
    (rw e t.0.1, rw e t.0.2)

pub returns-then-fits : goal.returns-then-fits
returns-then-fits c =
    let A = c.args in
    let h = sym c.fits.ensures ∙ c.if-fits.true in
    let t = room _ _ _ _ _ _ _ h in
    let e = part_wide A.d.now A.to A.w t.0.0 in
    put_mid-paste A.to (A.to + A.w - A.to) A.d.now c.ruled_row.new.row _ A.w (rw e at c.ruled_row.ensures) (omega arith) (sym (rule_wide A.c A.w A.us.now A.at t.0.1 A.sheet.now (eqb (byte A.sheet.now A.at 1) 1)))
    ∙ sym (ruled-is _ _ _ _ _ _ _ h)

pub returns-else-fits : goal.returns-else-fits
returns-else-fits c = sym (ruled-not _ _ _ _ _ _ _ (sym c.fits.ensures ∙ c.if-fits.false))
