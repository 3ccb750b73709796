use mathlib.Core.Path.{refl, sym}
use Prim.Native.Nat.{◌+◌, ◌*◌}
use native.Mathlib.Omega.{arith}
use lib.ListN.{get_or-eq_default}
use Rattle.meaning.specs.Limits.{record_bytes, mask_bytes}
use Rattle.sheet.proofs.any_byte.Goals as goal

pub returns-then-sheet-i : goal.returns-then-sheet-i
unfolding record_bytes mask_bytes
returns-then-sheet-i c = let A = c.args in sym (get_or-eq_default A.sheet.now 0 {n = A.i * record_bytes + A.k} (omega arith))

pub returns-then-sheet-from : goal.returns-then-sheet-from
unfolding record_bytes mask_bytes
returns-then-sheet-from c = let A = c.args in sym (get_or-eq_default A.sheet.now 0 {n = A.i * record_bytes + A.k} (omega arith))

pub returns : goal.returns
unfolding record_bytes mask_bytes
returns c = refl
