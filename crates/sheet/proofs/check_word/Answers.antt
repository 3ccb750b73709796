use Rattle.sheet.proofs.Wording.{not-long, bad_symbol, short, done, at_some, at_none}
use Rattle.sheet.proofs.check_word.Goals as goal

pub returns-then-word-wanted : goal.returns-then-word-wanted
returns-then-word-wanted c = not-long _ _ _ _ _ c.if-word-wanted.true

pub returns-in-Some : goal.returns-in-Some
returns-in-Some c = let f = at_some _ _ _ c.in-Some.ensures in bad_symbol _ _ _ _ _ c.if-word-wanted.false _ f.0 f.1

pub returns-then-room-needed : goal.returns-then-room-needed
returns-then-room-needed c = short _ _ _ _ _ c.if-word-wanted.false (at_none _ _ c.in_default.ensures) c.if-room-needed.true

pub returns : goal.returns
returns c = done _ _ _ _ _ c.if-word-wanted.false (at_none _ _ c.in_default.ensures) c.if-room-needed.false
