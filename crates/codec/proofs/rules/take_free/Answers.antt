use mathlib.Core.Path.{refl, sym, ◌∙◌}
use lib.ListN.{length-set}
use Rattle.codec.proofs.Placing.{take-room, free_taken, frozen_passed, taken}
use Rattle.codec.proofs.rules.take_free.Goals as goal
use Rattle.codec.proofs.rules.take_free.Goals.{then-is_free, else-is_free}

pub bounds-free-next : goal.bounds-free-next
bounds-free-next c =
    take-room _ _ _ refl c.requires.sheet_len.1 _ _ _ c.loop-i-test.true c.loop-i.invariant.1 (sym c.is_free.ensures ∙ c.if-is_free.true)

pub loop-i-preserved : goal.loop-i-preserved
loop-i-preserved c =
    let inv = c.loop-i.invariant in
    elim c.if-is_free.branch [
      | then-is_free w ↦
          let e = sym c.is_free.ensures ∙ w.if-is_free.true in
          (rw w.free-is (length-set c.loop-i.free _ _ ∙ inv.0), rw (w.free-is, w.next-is) (free_taken _ _ _ refl c.requires.sheet_len.1 _ _ _ c.loop-i-test.true inv.1 e))
      | else-is_free w ↦ (rw w.free-is inv.0, rw (w.free-is, w.next-is) (frozen_passed _ _ _ refl c.requires.sheet_len.1 _ _ _ c.loop-i-test.true inv.1 (sym c.is_free.ensures ∙ w.if-is_free.false)))
    ]

pub returns : goal.returns
returns c = taken _ _ _ _ c.loop-i.next c.loop-i.i c.loop-i-test.false c.loop-i.invariant.1
