use mathlib.Core.Path.{sym, ap, ◌∙◌}
use native.Mathlib.Omega.{arith}
use lib.ListN.{length}
use Prim.Native.Nat.{ℕ, ◌*◌, ◌/◌}
use Rattle.descent.proofs.Halves.{halved}
use Rattle.descent.proofs.Asks.{leaf_room, leaf_back, ask_left, ask_right, done}
use Rattle.descent.proofs.block.+decode.Goals as goal

pub position-requires-clause-room : goal.position-requires-clause-room
position-requires-clause-room t c =
    let A = c.args in
    leaf_room A.shape A.k A.course.now.t A.sheet.now A.vals.now A.course.now.us.now A.course.now.eqs.now A.marks.now c.if-k-eq0.true c.requires.size c.requires.here c.requires.room

pub part-requires : goal.part-requires
part-requires t c =
    let A = c.args in
    let S = c.split_at_mut-left in
    let M = c.split_at_mut-left_marks in
    let D = halved _ _ _ _ _ _ _ _ c.if-k-eq0.false c.requires.size c.requires.here.rows_v S.ensures.front S.ensures.back M.ensures.front M.ensures.back in
    (record { alike = D.len_l ∙ sym D.len_r; marked = D.len_r ∙ ap (λ (x : ℕ). x * A.shape.words) (sym D.len_q) }, D.len_p ∙ sym D.len_q)

pub decode-requires : goal.decode-requires
decode-requires t c =
    let A = c.args in
    let S = c.split_at_mut-left in
    let M = c.split_at_mut-left_marks in
    let D = halved _ _ _ _ _ _ _ _ c.if-k-eq0.false c.requires.size c.requires.here.rows_v S.ensures.front S.ensures.back M.ensures.front M.ensures.back in
    let P = c.part in (
      omega (arith, c.if-k-eq0.false),
      ask_left A.shape A.k (length A.marks.now / 2) A.course.now.t A.sheet.now A.vals.now S.result.0.now S.result.1.now A.course.now.us.now A.course.now.eqs.now A.marks.now M.result.0.now M.result.1.now D c.requires.here c.requires.room
          P.new.left P.new.right P.new.left_marks P.new.right_marks P.auto.left P.auto.left_marks P.ensures,
    )

pub settle-requires : goal.settle-requires
settle-requires t c =
    let A = c.args in
    let S = c.split_at_mut-left in
    let M = c.split_at_mut-left_marks in
    let D = halved _ _ _ _ _ _ _ _ c.if-k-eq0.false c.requires.size c.requires.here.rows_v S.ensures.front S.ensures.back M.ensures.front M.ensures.back in
    let P = c.part in
    record {
      alike = c.decode.auto.vals ∙ P.auto.left ∙ D.len_l ∙ sym (P.auto.right ∙ D.len_r);
      marked = P.auto.right ∙ D.len_r ∙ ap (λ (x : ℕ). x * A.shape.words) (sym (P.auto.right_marks ∙ D.len_q));
    }

pub decode-requires-else-k-eq0 : goal.decode-requires-else-k-eq0
decode-requires-else-k-eq0 t c =
    let A = c.args in
    let S = c.split_at_mut-left in
    let M = c.split_at_mut-left_marks in
    let D = halved _ _ _ _ _ _ _ _ c.if-k-eq0.false c.requires.size c.requires.here.rows_v S.ensures.front S.ensures.back M.ensures.front M.ensures.back in
    let P = c.part in
    let L = c.decode in
    let Q = c.settle in (
      omega (arith, c.if-k-eq0.false),
      ask_right A.shape A.k (length A.marks.now / 2) A.course.now.t A.sheet.now A.vals.now S.result.0.now S.result.1.now A.course.now.us.now A.course.now.eqs.now A.marks.now M.result.0.now M.result.1.now D c.requires.here c.requires.room
          P.new.left P.new.right P.new.left_marks P.new.right_marks P.auto.left P.auto.left_marks P.ensures
          P.auto.right_marks L.new.vals L.new.course.us.now L.new.course.eqs.now L.new.course.t L.ensures.kept.us L.ensures.kept.eqs L.ensures.kept.at L.ensures.out
          Q.new.right Q.new.right_marks (Q.auto.right ∙ P.auto.right) (Q.auto.right_marks ∙ P.auto.right_marks) Q.ensures,
    )

pub returns-then-k-eq0-clause-out : goal.returns-then-k-eq0-clause-out
returns-then-k-eq0-clause-out t c =
    let A = c.args in
    let L = c.position in
    leaf_back A.shape A.k A.course.now.t A.sheet.now A.vals.now A.course.now.us.now A.course.now.eqs.now A.marks.now c.if-k-eq0.true c.requires.size c.requires.here
    L.new.vals L.new.course.us.now L.new.course.eqs.now L.new.course.t L.ensures.out

pub returns-else-k-eq0-clause-out : goal.returns-else-k-eq0-clause-out
returns-else-k-eq0-clause-out t c =
    let A = c.args in
    let S = c.split_at_mut-left in
    let M = c.split_at_mut-left_marks in
    let D = halved _ _ _ _ _ _ _ _ c.if-k-eq0.false c.requires.size c.requires.here.rows_v S.ensures.front S.ensures.back M.ensures.front M.ensures.back in
    let P = c.part in
    let L = c.decode in
    let Q = c.settle in
    let N = c.decode-else-k-eq0 in
    let lenL = L.auto.vals ∙ P.auto.left ∙ D.len_l in
    let lenR = N.auto.vals ∙ Q.auto.right ∙ P.auto.right ∙ D.len_r in
    done A.shape A.k (length A.marks.now / 2) A.course.now.t A.sheet.now A.vals.now S.result.0.now S.result.1.now A.course.now.us.now A.course.now.eqs.now A.marks.now M.result.0.now M.result.1.now D c.requires.here c.requires.room
    P.new.left P.new.right P.new.left_marks P.new.right_marks P.auto.left P.auto.left_marks P.ensures
    P.auto.right_marks L.new.vals L.new.course.us.now L.new.course.eqs.now L.new.course.t L.ensures.kept.us L.ensures.kept.eqs L.ensures.kept.at L.ensures.out
    Q.new.right Q.new.right_marks (Q.auto.right ∙ P.auto.right) (Q.auto.right_marks ∙ P.auto.right_marks) Q.ensures
    N.new.vals c.add.new.d N.new.course.us.now N.new.course.eqs.now N.new.course.t lenL lenR (c.add.auto.d ∙ lenL) c.add.ensures N.ensures.out
