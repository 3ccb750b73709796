use mathlib.Core.Path.{sym}
use Rattle.descent.specs.Descending.{widest}
use Rattle.checks.proofs.Testing.{spaced-wide, spaced-full, spaced_short, spaced-room}
use Rattle.checks.proofs.limits.spaced.Goals as goal

pub returns-then-w-gt-WIDEST : goal.returns-then-w-gt-WIDEST
unfolding widest
returns-then-w-gt-WIDEST c = sym (spaced-wide _ _ _ _ _ c.if-w-gt-WIDEST.true)

pub returns-then-w-c : goal.returns-then-w-c
unfolding widest
returns-then-w-c c = sym (spaced-full _ _ _ _ _ c.if-w-gt-WIDEST.false c.if-w-c.true)

pub returns-then-room-r : goal.returns-then-room-r
unfolding widest
returns-then-room-r c = sym (spaced_short _ _ _ _ _ c.if-w-gt-WIDEST.false c.if-w-c.false c.if-room-r.true)

pub returns : goal.returns
unfolding widest
returns c = sym (spaced-room _ _ _ _ _ c.if-w-gt-WIDEST.false c.if-w-c.false c.if-room-r.false)
