-- The dimension: where any codeword agrees, 2 ^ d do, and d is what is reported.
--     dimension_pow      2 ^ d in number have dimension d
--     dimension-is       if a codeword agrees, 2 ^ dimension do
use mathlib.Core.Path.{◌≡◌, refl, sym, ap, ◌∙◌}
use mathlib.Core.Logic.{⊎_elim}
use Prim.Native.Nat.{ℕ, zero, suc, ◌/◌, ◌^◌, ◌≤◌, ◌<◌}
use native.Mathlib.Omega.{arith}
use native.Mathlib.Nat.{pow-suc, mul-div_cancel}
use mathlib.Core.Bool.{Bool}
use mathlib.Core.List.{List}
use lib.ListN.{length}
use lib.Pow.{pow_pos}
use borrow.Author.Tests.{lt-leb}
use Rattle.meaning.specs.Sheet.{Rule}
use Rattle.meaning.specs.Codewords.{candidates}
use Rattle.meaning.specs.Strips.{log2, dimension}
use Rattle.meaning.proofs.Gap.{power_of_two}

log2_pow : (f d : ℕ) → d ≤ f → log2 f (2 ^ d) ≡ d
log2_pow zero zero h = refl
log2_pow zero (suc d) h = absurd (omega arith)
log2_pow (suc f) zero h = refl
log2_pow (suc f) (suc d) h =
    let half : 2 ^ suc d / 2 ≡ 2 ^ d = ap (λ (x : ℕ). x / 2) (pow-suc 2 d) ∙ mul-div_cancel (2 ^ d) (omega arith) in
    rw (lt-leb (2 ^ suc d) 1 (omega (arith, pow_pos d)), half, log2_pow f d (omega arith))

below_pow : (d : ℕ) → d ≤ 2 ^ d
below_pow zero = omega arith
below_pow (suc d) = omega (arith, below_pow d, pow_pos d)

pub dimension_pow : (cs : List (List Bool)) (d : ℕ) → length cs ≡ 2 ^ d → dimension cs ≡ d
unfolding dimension
dimension_pow cs d e = rw e (log2_pow (2 ^ d) d (below_pow d))

pub dimension-is : (n : ℕ) (ks : List Rule) (r : ℕ) (w : List ℕ) → 0 < length (candidates n ks r w) → length (candidates n ks r w) ≡ 2 ^ dimension (candidates n ks r w)
dimension-is n ks r w h = ⊎_elim (λ e. absurd (omega arith)) (λ (d, e). e ∙ ap (λ (k : ℕ). 2 ^ k) (sym (dimension_pow (candidates n ks r w) d e))) (power_of_two n ks r w)
