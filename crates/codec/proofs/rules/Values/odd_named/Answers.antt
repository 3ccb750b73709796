use mathlib.Core.Path.{◌≡◌, ap, ap₂, ◌∙◌}
use native.Mathlib.Omega.{arith}
use lib.Bits.{bit_xor}
use Rattle.bits.specs.Vectors.{bit}
use Rattle.meaning.specs.Limits.{mask_bytes}
use Rattle.meaning.specs.Sheet.{names}
use Rattle.sheet.specs.Masks.{mask_words}
use Rattle.sheet.proofs.Joining.{word_there}
use Rattle.codec.proofs.Packing.{odd_first, word_more, word_bits_lem, all_words}
use Rattle.codec.proofs.rules.Values.odd_named.Goals as goal

pub loop-k-preserved : goal.loop-k-preserved
unfolding mask_bytes
loop-k-preserved c =
    let A = c.args in
    let k = c.loop-k.k in
    let w = c.mask_word.result in
    ap₂ bit_xor c.loop-k.invariant c.parity-o.ensures
    ∙ word_more (names A.sheet.now A.i) A.self.now.0 k w (omega arith)
    (word_bits_lem A.sheet.now A.i k w (word_there A.sheet.now A.i k w c.loop-k-test.true c.requires c.mask_word.ensures))

pub returns : goal.returns
unfolding mask_bytes
returns c =
    let s = c.args.sheet.now in
    let v = c.args.self.now.0 in
    let e : c.loop-k.k ≡ mask_words = omega arith in
    c.loop-k.invariant ∙ ap bit (ap (odd_first (names s c.args.i) v) e ∙ all_words s c.args.i v (omega arith))
