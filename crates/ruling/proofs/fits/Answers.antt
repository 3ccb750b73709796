use Rattle.meaning.specs.Limits.{record_bytes, mask_bytes}
use Rattle.ruling.proofs.Room.{narrow, far, short, few, low, last}
use Rattle.ruling.proofs.fits.Goals as goal

pub returns-then-w-c : goal.returns-then-w-c
returns-then-w-c c = narrow _ _ _ _ _ _ _ c.if-w-c.true

pub returns-then-at-ge-POSITIONS : goal.returns-then-at-ge-POSITIONS
unfolding record_bytes mask_bytes
returns-then-at-ge-POSITIONS c = far _ _ _ _ _ _ _ c.if-w-c.false c.if-at-ge-POSITIONS.true

pub returns-then-sheet-at : goal.returns-then-sheet-at
unfolding record_bytes mask_bytes
returns-then-sheet-at c = short _ _ _ _ _ _ _ c.if-w-c.false c.if-at-ge-POSITIONS.false c.if-sheet-at.true

pub returns-then-us-w : goal.returns-then-us-w
unfolding record_bytes mask_bytes
returns-then-us-w c = few _ _ _ _ _ _ _ c.if-w-c.false c.if-at-ge-POSITIONS.false c.if-sheet-at.false c.if-us-w.true

pub returns-then-d-w : goal.returns-then-d-w
unfolding record_bytes mask_bytes
returns-then-d-w c = low _ _ _ _ _ _ _ c.if-w-c.false c.if-at-ge-POSITIONS.false c.if-sheet-at.false c.if-us-w.false c.if-d-w.true

pub returns : goal.returns
unfolding record_bytes mask_bytes
returns c = last _ _ _ _ _ _ _ c.if-w-c.false c.if-at-ge-POSITIONS.false c.if-sheet-at.false c.if-us-w.false c.if-d-w.false
