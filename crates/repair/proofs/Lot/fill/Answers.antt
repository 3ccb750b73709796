use mathlib.Core.Path.{◌≡◌, refl, ap₂}
use Prim.Native.Nat.{◌*◌}
use Rattle.meaning.specs.Limits.{head_bytes}
use Rattle.meaning.specs.Stream.{n_of}
use Rattle.strip_stream.specs.Strips.{part_bytes, part_count}
use Rattle.repair.proofs.Runs.{filled_in_lem}
use native.Mathlib.Omega.{arith}
use Rattle.repair.proofs.Lot.fill.Goals as goal

pub overflow_mul-result : goal.overflow_mul-result
overflow_mul-result c =
    let l = c.args.self.now in
    let parted : c.parts-p.result * c.part.result ≡ part_count l.sheet.now l.choice.now c.args.strips.now * part_bytes (n_of l.sheet.now) = ap₂ ◌*◌ c.parts-p.ensures c.part.ensures in
    omega (arith, parted, c.requires.parts_fit, c.well_formed)

pub overflow_mul-result-2 : goal.overflow_mul-result-2
unfolding head_bytes
overflow_mul-result-2 c = omega (arith, c.count-k.ensures, c.requires.records_fit, c.well_formed)

pub returns : goal.returns
unfolding head_bytes
returns c =
    let A = c.args in
    let l = A.self.now in
    filled_in_lem l.sheet.now l.choice.now l.lost.now A.strips.now A.repaired.now _ A.records.now _ _ _ _ _ _ refl c.answer.ensures c.requires c.parts-p.ensures c.part.ensures c.count-k.ensures
