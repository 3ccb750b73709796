use mathlib.Core.Path.{sym, ap, ◌∙◌}
use Prim.Native.Nat.{ℕ}
use lib.Bits.{bit_xor}
use borrow.Author.Tests.{eq-eqb, ne_eqb}
use Rattle.meaning.specs.Sheet.{mask}
use Rattle.bits.specs.Vectors.{odd}
use Rattle.codec.specs.Packed.{held}
use Rattle.codec.proofs.Packing.{flipped}
use Rattle.codec.proofs.rules.Values.rule_bit.Goals as goal

pub returns-then-byte-eq1 : goal.returns-then-byte-eq1
returns-then-byte-eq1 c =
    rw (eq-eqb _ 1 (sym c.byte.ensures ∙ c.if-byte-eq1.true)) (ap (λ (x : ℕ). bit_xor x 1) c.odd_named-o.ensures ∙ flipped (odd (mask c.args.sheet.now c.args.i) (held c.args.self.now.0)))

pub returns-else-byte-eq1 : goal.returns-else-byte-eq1
returns-else-byte-eq1 c = rw (ne_eqb _ 1 (λ e. c.if-byte-eq1.false (c.byte.ensures ∙ e))) c.odd_named-o.ensures
