use mathlib.Core.Path.{◌≡◌, refl, sym}
use Prim.Native.Nat.{◌*◌, ◌≤◌}
use native.Mathlib.Omega.{arith}
use lib.ListN.{length}
use lib.Dec.{eqb}
use Rattle.bits.specs.Rows.{rows}
use Rattle.meaning.specs.Limits.{mask_bytes}
use Rattle.meaning.specs.Sheet.{byte, mask, rule_at}
use Rattle.sheet.proofs.Records.{rule_free, rule_frozen}
use Rattle.ruling.proofs.Rules.{rule_wide}
use Rattle.ruling.proofs.Room.{ruled-at}
use Rattle.descent.proofs.Leaves.{fill-free, fill-frozen, next-free, next_frozen, hold_free, hold_room, hold_frozen, few}
use Rattle.descent.proofs.leaf.fill.Goals as goal

pub overflow_mul-to : goal.overflow_mul-to
overflow_mul-to c =
    let A = c.args in
    let w = A.shape.words in
    let s = A.sheet.now in
    let rs = rows w A.t.at A.us.now in
    let f = rule_frozen s A.t.at c.in-true-false.ensures' refl in
    let room = hold_room A.shape.coeffs w A.mark A.vals.now rs (rule_at s A.t.at) (sym c.in-true-false.ensures) A.t.eqs A.eqs.now (eqb (byte s A.t.at 1) 1) (mask s A.t.at) f c.requires.room.equations in
    omega arith

pub overflow_add-result-in-true-false-2 : goal.overflow_add-result-in-true-false-2
overflow_add-result-in-true-false-2 c =
    let A = c.args in
    let w = A.shape.words in
    let s = A.sheet.now in
    let rs = rows w A.t.at A.us.now in
    let f = rule_frozen s A.t.at c.in-true-false.ensures' refl in
    let room = hold_room A.shape.coeffs w A.mark A.vals.now rs (rule_at s A.t.at) (sym c.in-true-false.ensures) A.t.eqs A.eqs.now (eqb (byte s A.t.at 1) 1) (mask s A.t.at) f c.requires.room.equations in
    let z = few A.t.eqs w (length A.eqs.now) (omega (arith, c.requires.here.constant)) room in
    omega arith

pub returns-in-true-true-clause-eqs : goal.returns-in-true-true-clause-eqs
returns-in-true-true-clause-eqs c =
    let A = c.args in
    hold_free A.shape.coeffs A.shape.words A.mark A.vals.now _ _ (sym c.in-true-true.ensures) (rule_free A.sheet.now A.t.at c.in-true-true.ensures' refl) _

pub returns-in-true-false-clause-eqs : goal.returns-in-true-false-clause-eqs
unfolding mask_bytes
returns-in-true-false-clause-eqs c =
    let A = c.args in
    let H = c.requires.here in
    let C = c.rule_row in
    let w = A.shape.words in
    let s = A.sheet.now in
    let at = A.t.at in
    let rs = rows w at A.us.now in
    let b = eqb (byte s at 1) 1 in
    let f = rule_frozen s at c.in-true-false.ensures' refl in
    let k = sym c.in-true-false.ensures in
    let room = hold_room A.shape.coeffs w A.mark A.vals.now rs (rule_at s at) k A.t.eqs A.eqs.now b (mask s at) f c.requires.room.equations in
    let l : length A.vals.now ≡ w = omega (arith, H.rows_v) in
    let us : at * w ≤ length A.us.now = omega (arith, H.rows_u) in
    hold_frozen A.shape.coeffs w A.mark A.vals.now rs (rule_at s at) k A.t.eqs A.eqs.now b (mask s at) f C.new.d c.add.new.d l
    (rule_wide A.shape.coeffs w A.us.now at us s b) room
    (ruled-at A.eqs.now (A.t.eqs * w) A.us.now s at A.shape.coeffs w C.new.d C.ensures (room, us, H.constant) (omega (arith, H.below), H.records)) c.add.ensures

pub returns-in-false-true-clause-value : goal.returns-in-false-true-clause-value
returns-in-false-true-clause-value c =
    let A = c.args in
    let l : length A.vals.now ≡ A.shape.words = omega (arith, c.requires.here.rows_v) in
    fill-free A.shape.coeffs A.shape.words A.t.next A.mark A.vals.now _ _ (sym c.in-false-true.ensures) c.unknown_row.new.d (rule_free A.sheet.now A.t.at c.in-false-true.ensures' refl) l c.unknown_row.ensures

pub returns-in-false-true-clause-next : goal.returns-in-false-true-clause-next
returns-in-false-true-clause-next c = let A = c.args in next-free A.t.next A.mark A.vals.now _ (sym c.in-false-true.ensures) (rule_free A.sheet.now A.t.at c.in-false-true.ensures' refl)

pub returns-in-false-false-clause-value : goal.returns-in-false-false-clause-value
unfolding mask_bytes
returns-in-false-false-clause-value c =
    let A = c.args in
    let H = c.requires.here in
    let C = c.rule_row-in-false-false in
    let w = A.shape.words in
    let s = A.sheet.now in
    let at = A.t.at in
    let b = eqb (byte s at 1) 1 in
    let l : length A.vals.now ≡ w = omega (arith, H.rows_v) in
    let us : at * w ≤ length A.us.now = omega (arith, H.rows_u) in
    fill-frozen A.shape.coeffs w A.t.next A.mark A.vals.now (rows w at A.us.now) (rule_at s at) (sym c.in-false-false.ensures) C.new.d b (mask s at)
    (rule_frozen s at c.in-false-false.ensures' refl) l (rule_wide A.shape.coeffs w A.us.now at us s b)
    (ruled-at A.vals.now 0 A.us.now s at A.shape.coeffs w C.new.d C.ensures (omega arith, us, H.constant) (omega (arith, H.below), H.records))

pub returns-in-false-false-clause-next : goal.returns-in-false-false-clause-next
returns-in-false-false-clause-next c = let A = c.args in next_frozen A.t.next A.mark A.vals.now _ (sym c.in-false-false.ensures) _ _ (rule_frozen A.sheet.now A.t.at c.in-false-false.ensures' refl)
