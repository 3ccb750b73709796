use Rattle.meaning.specs.Limits.{record_bytes, mask_bytes}
use Rattle.sheet.proofs.Joining.{no_word, no_record, all_there}
use Rattle.sheet.proofs.mask_word.Goals as goal

pub returns-then-k-ge-MASK_WORDS : goal.returns-then-k-ge-MASK_WORDS
unfolding mask_bytes
returns-then-k-ge-MASK_WORDS c = no_word _ _ _ c.if-k-ge-MASK_WORDS.true

pub returns-then-sheet-i : goal.returns-then-sheet-i
unfolding record_bytes mask_bytes
returns-then-sheet-i c = no_record _ _ _ c.if-sheet-i.true

pub returns : goal.returns
unfolding record_bytes mask_bytes
returns c = all_there _ _ _ _ c.if-k-ge-MASK_WORDS.false c.if-sheet-i.false c.eight.ensures
