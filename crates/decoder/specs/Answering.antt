-- A word that can be answered.
--     symbol_words, equation_words     the words of its symbols' rows, and of the rows that there is room for equations in
--     Roomy                            there is room for what it is answered
--     answering                        what it is answered, and what is left in the buffer
use Rattle.std.specs.Prelude.{ℕ, ◌+◌, ◌*◌, ◌≤◌, List, length}
use Rattle.meaning.specs.Answers.{Reply}
use Rattle.decoder.specs.Deciding.{deciding}
use Rattle.decoder.specs.declared.word.Word.{Word}

abbrev pub symbol_words : Word → ℕ
symbol_words w = length w.symbols.now * w.terms.words

abbrev pub equation_words : Word → ℕ
equation_words w = (length w.symbols.now + w.terms.r) * w.terms.words

abbrev pub Roomy : Word → List ℕ → Type 0
Roomy w out = 3 * length w.symbols.now ≤ length out

abbrev pub answering : Word → List ℕ → Reply
answering w out = deciding w.terms.n w.sheet.now w.terms.r w.terms.most w.symbols.now out
