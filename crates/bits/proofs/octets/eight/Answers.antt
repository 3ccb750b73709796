use Rattle.std.proofs.Common.{arith, rules}
use Rattle.bits.proofs.Joining.{inside, out_of}
use Rattle.bits.proofs.octets.eight.Goals as goal
use Rattle.bits.proofs.octets.eight.Goals.{then-s-lt8-via-then-s-lt8, then-s-lt8-via-else-s-lt8+then-s-at}

pub returns-then-s-lt8 : goal.returns-then-s-lt8
returns-then-s-lt8 c = elim c.then-s-lt8.branch [
  | then-s-lt8-via-then-s-lt8 w ↦ out_of _ _ (omega (arith, w.if-s-lt8.true))
  | then-s-lt8-via-else-s-lt8+then-s-at w ↦ out_of _ _ (omega (arith, w.if-s-lt8.false, w.if-s-at.true))
]

pub returns : goal.returns
returns c = inside _ _ _ c.unwrap-word.result.now (λ i. omega (arith, c.type_inv.s i)) c.from_le_bytes.ensures (omega arith) (search rules)
