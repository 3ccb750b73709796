use mathlib.Core.Path.{refl}
use Rattle.meaning.specs.Limits.{record_bytes, mask_bytes}
use Rattle.sheet.proofs.byte.Goals as goal

pub returns-then-k-ge-RECORD : goal.returns-then-k-ge-RECORD
returns-then-k-ge-RECORD c = c.any_byte.ensures

pub returns-then-sheet-i : goal.returns-then-sheet-i
returns-then-sheet-i c = c.any_byte-then-sheet-i.ensures

pub returns : goal.returns
unfolding record_bytes mask_bytes
returns c = refl
