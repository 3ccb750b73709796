use mathlib.Core.Path.{◌≡◌, sym, ◌∙◌}
use mathlib.Core.List.{map}
use Prim.Native.Nat.{◌<◌, ◌-◌}
use native.Mathlib.Numerals.{add-one}
use native.Mathlib.Omega.{arith}
use lib.ListN.{length, length-map}
use lib.Seq.{take-suc, take-suc-set, take_all}
use Rattle.bits.specs.Vectors.{bit}
use Rattle.bits.specs.Words.{bit_at}
use Rattle.division.proofs.Division.{length-to_bits, bits_at}
use Rattle.division.specs.Division.{to_bits}
use Rattle.division.proofs.spell.Goals as goal

pub loop-i-preserved : goal.loop-i-preserved
loop-i-preserved c =
    let out = c.loop-i.out in
    let i = c.loop-i.i in
    let r = length c.args.out.now in
    let s = c.args.s in
    let bits = map bit (to_bits r s) in
    let lb : length bits ≡ r = length-map (to_bits r s) bit ∙ length-to_bits r s in
    let here : i < length bits = omega arith in
    let there : i < length out = omega arith in
    rw (add-one i, take-suc-set out i (bit_at s (r - 1 - i)), take-suc bits i 0, c.loop-i.invariant, bits_at r s i (omega arith))

pub returns : goal.returns
returns c =
    let i = c.loop-i.i in
    let r = length c.args.out.now in
    let bits = map bit (to_bits r c.args.s) in
    let lb : length bits ≡ r = length-map (to_bits r c.args.s) bit ∙ length-to_bits r c.args.s in
    sym (take_all i c.loop-i.out (omega arith)) ∙ c.loop-i.invariant ∙ take_all i bits (omega arith)
