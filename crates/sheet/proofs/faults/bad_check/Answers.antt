use Rattle.std.proofs.Common.{refl}
use borrow.Author.Tests.{lt-ltb, le-ltb}
use Rattle.meaning.specs.Answers.{bad_check}
use Rattle.sheet.proofs.faults.bad_check.Goals as goal

pub returns-then-not-is_check_length : goal.returns-then-not-is_check_length
unfolding bad_check
returns-then-not-is_check_length c = rw (← c.is_check_length.ensures, c.if-not-is_check_length.true) refl

pub returns-then-r-gt0 : goal.returns-then-r-gt0
unfolding bad_check
returns-then-r-gt0 c = rw (← c.is_check_length.ensures, c.if-not-is_check_length.false, lt-ltb 0 c.args.r c.if-r-gt0.true) refl

pub returns-else-r-gt0 : goal.returns-else-r-gt0
unfolding bad_check
returns-else-r-gt0 c = rw (← c.is_check_length.ensures, c.if-not-is_check_length.false, le-ltb 0 c.args.r c.if-r-gt0.false) refl
