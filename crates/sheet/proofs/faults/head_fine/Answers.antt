use mathlib.Core.Path.{ap, sym, ◌∙◌}
use Prim.Native.Nat.{ℕ}
use lib.Dec.{eqb}
use Rattle.sheet.proofs.Records.{head_kind, head_constant, head_two, head_last}
use Rattle.sheet.proofs.faults.head_fine.Goals as goal

pub returns-then-kind-gt1 : goal.returns-then-kind-gt1
returns-then-kind-gt1 c = head_kind _ _ (rw c.byte-kind.ensures at c.if-kind-gt1.true)

pub returns-then-byte-kind : goal.returns-then-byte-kind
returns-then-byte-kind c = head_constant _ _ (rw (c.byte-kind.ensures, c.byte.ensures) at c.if-byte-kind.true)

pub returns-then-byte-ne0 : goal.returns-then-byte-ne0
returns-then-byte-ne0 c = head_two _ _ (λ e. c.if-byte-ne0.true (c.byte-2.ensures ∙ e))

pub returns : goal.returns
returns c =
    let two = c in
    let one = two in
    let kind = one in
    ap (λ (b : ℕ). eqb b 0) c.byte-3.ensures
    ∙ head_last _ _ (rw kind.byte-kind.ensures at one.if-kind-gt1.false) (rw (one.byte.ensures, kind.byte-kind.ensures) at two.if-byte-kind.false)
    (sym two.byte-2.ensures ∙ c.if-byte-ne0.false)
