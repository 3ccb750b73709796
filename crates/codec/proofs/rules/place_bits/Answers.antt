use mathlib.Core.Path.{refl, sym, ◌∙◌}
use native.Mathlib.Omega.{arith}
use lib.Dec.{eqb}
use Rattle.std.proofs.lemmas.Option.{MatchOption-at_some}
use Rattle.bits.specs.Vectors.{◌⊕◌, odd}
use Rattle.meaning.specs.Sheet.{byte, mask}
use Rattle.codec.specs.Packed.{held}
use Rattle.codec.proofs.Placing.{starts, free-room, free_goes, frozen_goes, placed, small, left-is, first-small}
use Rattle.codec.proofs.rules.place_bits.Goals as goal
use Rattle.codec.proofs.rules.place_bits.Goals.{then-is_free, else-is_free}

pub loop-i-init : goal.loop-i-init
loop-i-init c = starts c.args.sheet.now _ c.args.free.now c.args.u.now c.none-values.result.0 c.iter-bits.result.rest.now refl c.none-values.ensures c.iter-bits.ensures.rest c.requires.bits c.requires.count

pub unwrap-requires : goal.unwrap-requires
unwrap-requires c = left-is _ _ _ _ (free-room _ _ _ _ _ _ _ c.loop-i-test.true c.loop-i.invariant (sym c.is_free.ensures ∙ c.if-is_free.true)) c.next.ensures.steps

pub remember-requires : goal.remember-requires
remember-requires c =
    let inv = c.loop-i.invariant in (
      omega (arith, c.requires.within),
      elim c.if-is_free.branch [
        | then-is_free w ↦ rw w.b-is (first-small _ _ _ inv.ones (MatchOption-at_some _ _ _ w.unwrap.ensures w.next.ensures.steps))
        | else-is_free w ↦ small _ (eqb (byte c.args.sheet.now c.loop-i.i 1) 1 ⊕ odd (mask c.args.sheet.now c.loop-i.i) (held c.loop-i.values.0)) (w.b-is ∙ w.rule_bit-b.ensures)
      ],
    )

pub loop-i-preserved : goal.loop-i-preserved
loop-i-preserved c =
    let inv = c.loop-i.invariant in
    let s = c.args.sheet.now in
    let small = c.requires.within in
    rw c.remember.ensures
    (elim c.if-is_free.branch [
      | then-is_free w ↦ rw (w.bits-is, w.b-is) (free_goes s _ _ _ _ _ _ c.loop-i-test.true inv small (sym c.is_free.ensures ∙ w.if-is_free.true) _ _ (MatchOption-at_some _ _ _ w.unwrap.ensures w.next.ensures.steps))
      | else-is_free w ↦ rw w.bits-is (frozen_goes s _ _ _ _ _ _ c.loop-i-test.true inv small (sym c.is_free.ensures ∙ w.if-is_free.false) _ (w.b-is ∙ w.rule_bit-b.ensures))
    ])

pub returns : goal.returns
returns c = placed _ _ _ _ _ _ c.loop-i.i (omega (arith, c.loop-i.invariant.long)) c.loop-i.invariant
