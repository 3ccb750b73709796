-- Rows scanned for an equation with no coefficient and the constant 1.
--     row_bad, row_good, rows_none     the turns of `holds`, and its end
use mathlib.Core.Path.{◌≡◌, refl, sym, ap, ap₂, ◌∙◌}
use mathlib.Core.Logic.{◌⊎◌, inl, inr}
use Prim.Native.Nat.{ℕ, suc, ◌+◌, ◌*◌, ◌/◌, ◌%◌, ◌<◌}
use native.Mathlib.Omega.{arith}
use native.Mathlib.Nat.{div-one, div-eq_of_lt, add-div_right}
use mathlib.Core.Bool.{Bool, true, false, ◌&&◌, ◌||◌, not}
use mathlib.Core.List.{List, ◌++◌}
use lib.ListN.{length, get_or, length-append}
use lib.Seq.{take_at, drop_at}
use lib.Dec.{eqb}
use borrow.Author.Tests.{eq-eqb, ne_eqb}
use Rattle.bits.proofs.Tests.{or_true}
use Rattle.bits.specs.Rows.{has_at, has, rows, rows_of}
use Rattle.gf2.specs.System.{led, consistent}
use Rattle.bits.proofs.RowLaws.{rows-suc}

module _ (c w : ℕ) where
  abbrev pub scan : List ℕ → Bool
  scan l = consistent c (has (64 * c)) (rows_of w l)

  -- l is the row x and what is left after it, t
  module _ (l x t : List ℕ) (h : c < w) (e : l ≡ x ++ t) (n : length x ≡ w) where
    -- the constant of the row
    constant : has (64 * c) x ≡ eqb (get_or x c 0 % 2) 1
    unfolding has_at
    constant =
        let p : 64 * c / 64 ≡ c = omega arith in
        let q : 64 * c % 64 ≡ 0 = omega arith in
        rw (p, q, div-one (get_or x c 0)) refl

    one_row : scan l ≡ (led c x || not (has (64 * c) x)) && scan t
    one_row =
        let p : length l ≡ length t + w = ap length e ∙ length-append x t ∙ omega arith in
        let k : length l / w ≡ suc (length t / w) = ap (λ (m : ℕ). m / w) p ∙ add-div_right (length t) (omega arith) ∙ omega arith in
        ap (consistent c (has (64 * c))) (ap₂ (rows w) k e ∙ rows-suc w (length t / w) (x ++ t)) ∙ rw (take_at x t w n, drop_at x t w n) refl

    pub row_bad : led c x ≡ false → get_or x c 0 % 2 ≡ 1 → scan l ≡ false
    row_bad b o = one_row ∙ ap₂ (λ (p q : Bool). (p || not q) && scan t) b (constant ∙ eq-eqb (get_or x c 0 % 2) 1 o)

    pub row_good : (led c x ≡ true) ⊎ (get_or x c 0 % 2 ≡ 1 → ⊥) → scan t ≡ scan l
    row_good d = sym (one_row ∙ ap (λ (p : Bool). p && scan t) (go d))
      where
        go : (led c x ≡ true) ⊎ (get_or x c 0 % 2 ≡ 1 → ⊥) → led c x || not (has (64 * c) x) ≡ true
        go (inl b) = rw b refl
        go (inr o) = ap (λ (q : Bool). led c x || not q) (constant ∙ ne_eqb (get_or x c 0 % 2) 1 o) ∙ or_true (led c x)

  pub rows_none : (l : List ℕ) → length l < w → scan l ≡ true
  rows_none l h = rw (div-eq_of_lt h) refl
