use mathlib.Core.Path.{◌≡◌, ap, ◌∙◌}
use Prim.Native.Nat.{◌*◌}
use native.Mathlib.Omega.{arith}
use lib.ListN.{length, length-replicate}
use Rattle.decoder.proofs.Placing.{put_constant, place-next, zero-next}
use Rattle.decoder.proofs.place.place.Goals as goal

pub loop-j-preserved : goal.loop-j-preserved
loop-j-preserved c =
    let W = c.args.w.now in
    let L = c.loop-j in
    let h = c.loop-j-test.true in
    let n = length W.symbols.now in
    let lv : length L.vals ≡ n * W.terms.words = L.auto.vals ∙ ap length c.requires ∙ length-replicate _ 0 in
    let o = put_constant W.terms.coeffs W.terms.words L.j _ n L.vals lv h (L.invariant.left.zeros L.j (omega arith) h) (omega (arith, W.wide)) _ c.from.ensures in
    record { placed = place-next h L.invariant.placed o; left = zero-next L.invariant.left o }
