-- The test of what a caller hands over: what holds where it passes.
--     whole-fits                       N rows of w words, within a machine word
--     roomy-true, fitting-true         where there is a place for all unknowns; where all fits
use mathlib.Core.Path.{◌≡◌}
use Prim.Native.Nat.{ℕ, ◌*◌, ◌^◌, ◌≤◌, ◌<◌}
use native.Mathlib.Omega.{arith}
use native.Mathlib.Nat.{mul-le-mul_right}
use mathlib.Core.Bool.{true}
use lib.Dec.{eqb, leb, ltb}
use lib.Pow.{pow_mono}
use mir.Val.{Fits}
use mir.Syntax.{w64}
use borrow.Author.Tests.{ltb-true, leb-true, eqb-true}
use Rattle.bits.proofs.Tests.{and_l, and_r}
use Rattle.meaning.specs.Limits.{largest_n}
use Rattle.sheet.specs.Shapes.{shaped}
use Rattle.sheet.proofs.Shapes.{shaped-true}
use Rattle.descent.specs.Descending.{widest, roomy, filled, fitting, Ready}

pub whole-fits : (n size w : ℕ) → n ≤ largest_n → w ≤ widest → size ≡ 2 ^ n → Fits w64 (size * w)
unfolding largest_n widest
whole-fits n size w h k e =
    let p = pow_mono {i = n} {j = largest_n} h in
    let q : size ≤ 2 ^ largest_n = omega arith in
    let r : size * w ≤ 2 ^ largest_n * w = mul-le-mul_right w q in
    omega arith

-- ---- where all fits

pub roomy-true : (most c w : ℕ) → roomy most c w ≡ true → (w ≤ widest) × (c < w) × (most ≤ 64 * c)
unfolding roomy
roomy-true most c w h =
    let k = and_r (leb w widest) _ h in
    (leb-true w widest (and_l _ _ h), ltb-true c w (and_l _ _ k), leb-true most (64 * c) (and_r (ltb c w) _ k))

pub fitting-true : (n s d most c w v u e : ℕ) → fitting n s d most c w v u e ≡ true → Ready n s d c w v u e × (most ≤ 64 * c)
unfolding fitting filled
fitting-true n s d most c w v u e h =
    let r = and_r (shaped n s d) _ h in
    let f = and_r (roomy most c w) _ r in
    let g = and_r (eqb v (2 ^ n * w)) _ f in
    let (a, b, l) = shaped-true n s d (and_l _ _ h) in
    let (x, y, z) = roomy-true most c w (and_l _ _ r) in (
      record {
        small = a;
        records = b;
        symbols = l;
        narrow = x;
        constant = y;
        rows_v = eqb-true v (2 ^ n * w) (and_l _ _ f);
        rows_u = eqb-true u (2 ^ n * w) (and_l _ _ g);
        rows_e = leb-true (2 ^ n * w) e (and_r (eqb u (2 ^ n * w)) _ g);
      },
      z,
    )
