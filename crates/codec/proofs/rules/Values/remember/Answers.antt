use native.Mathlib.Omega.{arith}
use Rattle.meaning.specs.Limits.{mask_bytes}
use Rattle.codec.proofs.rules.Values.remember.Goals as goal

pub bounds-self-i : goal.bounds-self-i
unfolding mask_bytes
bounds-self-i c = omega arith

pub bounds-self-i-2 : goal.bounds-self-i-2
unfolding mask_bytes
bounds-self-i-2 c = omega arith
