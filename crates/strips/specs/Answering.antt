-- A strip that can be repaired.
--     record_words, equation_words     the words of its records' rows, and of the rows that there is room for equations in
--     Roomy                            there is room for what it is answered
--     answering                        what it is answered, and what is left in the buffer
use Rattle.std.specs.Prelude.{ℕ, ◌+◌, ◌*◌, ◌≤◌, List, length}
use Rattle.meaning.specs.Answers.{Reply}
use Rattle.strips.specs.Deciding.{repair_deciding}
use Rattle.strips.specs.declared.strip.Strip.{Strip}

abbrev pub record_words : Strip → ℕ
record_words s = length s.lost.now * s.terms.words

abbrev pub equation_words : Strip → ℕ
equation_words s = (length s.lost.now + s.terms.r) * s.terms.words

abbrev pub Roomy : Strip → List ℕ → Type 0
Roomy s out = 65 * length s.lost.now ≤ length out

abbrev pub answering : Strip → List ℕ → Reply
answering s out = repair_deciding s.terms.n s.sheet.now s.terms.r s.terms.most s.records.now s.lost.now out
