use Prim.Native.Nat.{◌+◌, ◌*◌, ◌≤◌}
use mathlib.Core.Path.{◌≡◌, ◌∙◌}
use native.Mathlib.Omega.{arith}
use lib.ListN.{length}
use Rattle.descent.proofs.Leaves.{leaf_done}
use Rattle.descent.proofs.leaf.position.Goals as goal

pub returns-clause-out : goal.returns-clause-out
returns-clause-out c =
    let A = c.args in
    let H = c.requires.here in
    let F = c.fill-course in
    let E = F.ensures in
    let room : A.course.now.t.at * A.shape.words + A.shape.words ≤ length A.course.now.us.now = omega (arith, H.rows_u) in
    let l : length A.vals.now ≡ A.shape.words = omega (arith, H.rows_v) in
    leaf_done A.shape A.course.now.t A.sheet.now A.vals.now A.course.now.us.now A.course.now.eqs.now l room A.mark
    F.new.vals c.copy.new.d F.new.eqs F.result (F.auto.vals ∙ l) E.value E.at E.next E.eqs c.copy.ensures
