use Rattle.std.proofs.Common.{rules}
use mathlib.Core.Path.{ap, ◌∙◌}
use Prim.Native.Nat.{ℕ, ◌*◌}
use native.Mathlib.Omega.{arith}
use mathlib.Core.List.{List}
use lib.ListN.{length, replicate, length-drop}
use Rattle.bits.proofs.Parts.{from}
use Rattle.descent.proofs.Running.{whole-most, rows_here, rows_room, used, filled_up}
use Rattle.descent.proofs.word.run_rows.Goals as goal

pub decode-requires-clause-here : goal.decode-requires-clause-here
decode-requires-clause-here c =
    let A = c.args in
    rows_here A.shape A.n A.sheet.now A.vals.now A.us.now A.eqs.now A.marks.now c.requires.ready

pub decode-requires-clause-room : goal.decode-requires-clause-room
decode-requires-clause-room c =
    let A = c.args in
    rows_room A.shape A.n A.sheet.now A.vals.now A.us.now A.eqs.now A.marks.now c.requires.ready c.requires.start_bound

pub overflow_mul-m : goal.overflow_mul-m
overflow_mul-m c =
    let A = c.args in
    let D = c.decode in
    let R = c.requires.ready in
    let u = used A.shape.words A.n _ (whole-most A.shape A.n A.sheet.now A.vals.now A.us.now A.eqs.now A.marks.now) (length A.marks.now) R.symbols D.new.vals D.new.course.us.now D.new.course.eqs.now D.new.course.t D.ensures.kept.at D.ensures.out (length A.eqs.now) R.rows_e in
    omega (arith, u, D.ensures.kept.eqs, c.well_formed)

pub offset_bounds-eqs-m : goal.offset_bounds-eqs-m
offset_bounds-eqs-m c =
    let A = c.args in
    let D = c.decode in
    let R = c.requires.ready in
    let u = used A.shape.words A.n _ (whole-most A.shape A.n A.sheet.now A.vals.now A.us.now A.eqs.now A.marks.now) (length A.marks.now) R.symbols D.new.vals D.new.course.us.now D.new.course.eqs.now D.new.course.t D.ensures.kept.at D.ensures.out (length A.eqs.now) R.rows_e in
    omega (arith, u, D.ensures.kept.eqs, c.well_formed)

pub slice_bounds-fill-count : goal.slice_bounds-fill-count
slice_bounds-fill-count c =
    let A = c.args in
    let D = c.decode in
    let R = c.requires.ready in
    let u = used A.shape.words A.n _ (whole-most A.shape A.n A.sheet.now A.vals.now A.us.now A.eqs.now A.marks.now) (length A.marks.now) R.symbols D.new.vals D.new.course.us.now D.new.course.eqs.now D.new.course.t D.ensures.kept.at D.ensures.out (length A.eqs.now) R.rows_e in
    omega (arith, u, D.ensures.kept.eqs, c.well_formed)

pub slice_bounds-fill-start : goal.slice_bounds-fill-start
slice_bounds-fill-start c =
    let A = c.args in
    let D = c.decode in
    let R = c.requires.ready in
    let u = used A.shape.words A.n _ (whole-most A.shape A.n A.sheet.now A.vals.now A.us.now A.eqs.now A.marks.now) (length A.marks.now) R.symbols D.new.vals D.new.course.us.now D.new.course.eqs.now D.new.course.t D.ensures.kept.at D.ensures.out (length A.eqs.now) R.rows_e in
    omega (arith, u, D.ensures.kept.eqs, c.well_formed)

pub returns : goal.returns
returns c =
    let A = c.args in
    let D = c.decode in
    let F = c.fill in
    let R = c.requires.ready in
    let k = D.new.course.t.eqs * A.shape.words in
    filled_up A.shape.words A.n _ (whole-most A.shape A.n A.sheet.now A.vals.now A.us.now A.eqs.now A.marks.now) (length A.marks.now) R.symbols D.new.vals D.new.course.us.now D.new.course.eqs.now D.new.course.t D.ensures.kept.at D.ensures.out
    _ _ _ (length A.eqs.now) (D.auto.vals ∙ R.rows_v) (D.ensures.kept.us ∙ R.rows_u) D.ensures.kept.eqs (search rules) (search rules)
    (F.ensures.after (λ y h. h) ∙ ap {B = List ℕ} (λ (n : ℕ). replicate n 0) (ap length (from _ k) ∙ length-drop k _ ∙ omega arith))
