use mathlib.Core.Path.{refl}
use Rattle.codec.proofs.Sending.{checked, place_ready, sent}
use Rattle.codec.proofs.write_codeword.Goals as goal

pub place_bits-requires : goal.place_bits-requires
place_bits-requires c = place_ready _ _ _ _ _ c.requires.0 c.args.x.now c.append.new.out c.requires.1 c.append.auto.out (checked _ _ _ _ _ c.requires.0 c.args.free.now c.append.new.out refl c.append.ensures)

pub returns : goal.returns
returns c =
    let f = c.append.new.out in
    sent _ _ _ _ _ c.requires.0 c.args.x.now f c.requires.1 c.append.auto.out (checked _ _ _ _ _ c.requires.0 c.args.free.now f refl c.append.ensures)
    c.place_bits.new.u c.transform.new.s c.place_bits.ensures c.transform.ensures
