use mathlib.Core.Path.{◌≡◌, refl, ◌∙◌}
use mathlib.Core.Bool.{Bool, true, false}
use native.Mathlib.Omega.{arith}
use mir.Val.{bool_byte}
use Rattle.bits.specs.Vectors.{bit}
use Rattle.division.proofs.Division.{divisor, length-small, bit-small, step-over, step_under}
use Rattle.division.proofs.Check.shifted.Goals as goal

byte-bit : (b : Bool) → bool_byte b ≡ bit b
byte-bit true = refl
byte-bit false = refl

pub overflow_mul-t : goal.overflow_mul-t
overflow_mul-t c = record { fits = omega (arith, length-small _ c.args.self.known) }

pub overflow_add-t : goal.overflow_add-t
overflow_add-t c = record { fits = omega (arith, length-small _ c.args.self.known, byte-bit c.args.b, bit-small c.args.b) }

pub returns-then-t-limit : goal.returns-then-t-limit
returns-then-t-limit c =
    let A = c.args in
    let e = c.from.ensures ∙ byte-bit A.b in
    rw (e, A.self.word) (step-over A.self.length A.s A.b (divisor _ A.self.known) c.requires (omega arith))

pub returns-else-t-limit : goal.returns-else-t-limit
returns-else-t-limit c =
    let A = c.args in
    let e = c.from.ensures ∙ byte-bit A.b in
    rw e (step_under A.self.length A.s A.b (divisor _ A.self.known) c.requires (omega arith))
