-- The verdict of `solvable`, from the promise of `eliminate` and the laws of gf2 alone.
--     too_narrow, no_fit     the misfits
--     verdict                by the law `solvable` of gf2: a system has a solution just where its reduced equations are consistent
use mathlib.Core.Path.{◌≡◌, refl, sym, ap, ◌∙◌}
use Prim.Native.Nat.{ℕ, ◌*◌, ◌%◌, ◌≤◌, ◌<◌}
use native.Mathlib.Omega.{arith}
use native.Mathlib.Nat.{zero-mod, zero-div}
use mathlib.Core.Bool.{Bool, true, false, ◌&&◌}
use mathlib.Core.List.{List, []}
use lib.ListN.{length}
use lib.Dec.{eqb, ltb}
use borrow.Author.Tests.{ne_eqb, lt-ltb, le-ltb}
use Rattle.bits.proofs.Tests.{and-true}
use Rattle.bits.specs.Vectors.{pick}
use Rattle.bits.specs.Rows.{Row, has, rows_of, at}
use Rattle.gf2.specs.Solve.{solve, done, fits, solved}
use Rattle.gf2.specs.System.{consistent}
use Rattle.std.specs.Prelude.{Option, Some, None}
use Rattle.bits.proofs.RowXor.{has-⊻}
use Rattle.gf2.proofs.Leads.{lead_le}
use Rattle.gf2.proofs.Solutions.{solvable as solvable-is}
use Rattle.gf2.proofs.Calls.{left, unfit, Fitting, fitting}
use Rattle.solve.specs.Verdicts.{solvable, verdict_of}
use Rattle.solve.specs.declared.verdict.Verdict.TheVariants.{Misfit, Solvable, Not}

pub too_narrow : (c w : ℕ) (e : List ℕ) → w ≤ c → Misfit ≡ verdict_of c w e
unfolding verdict_of
too_narrow c w e h = rw (le-ltb c w h) refl

fits-is : (c w : ℕ) (e : List ℕ) → c < w → fits c w e [] ≡ eqb (length e % w) 0
unfolding fits
fits-is c w e h =
    rw (ne_eqb w 0 (λ (q : w ≡ 0). omega arith), le-ltb w c (omega arith), zero-mod w) (and-true (eqb (length e % w) 0))

no_rows : (w : ℕ) → rows_of w [] ≡ []
no_rows w = rw (zero-div w) refl

module _ (c w : ℕ) (e e₁ r₁ : List ℕ) (o : Option ℕ) (cw : c < w) (h : done e₁ r₁ o ≡ solved c w e []) where
  -- a misfit
  pub no_fit : o ≡ None → Misfit ≡ verdict_of c w e
  unfolding verdict_of
  no_fit q = go (eqb (length e % w) 0) refl
    where
      go : (b : Bool) → eqb (length e % w) 0 ≡ b → Misfit ≡ pick (ltb c w && eqb (length e % w) 0) (pick (solvable c w e) Solvable Not) Misfit
      go true m = let v = (left c w e [] e₁ r₁ o (fits-is c w e cw ∙ m) h).rank_is in let z : ◌≡◌ {A = ℕ} 0 1 = cc in absurd (omega arith)
      go false m = rw (lt-ltb c w cw, m) refl

  -- a rank
  module _ (n : ℕ) (q : o ≡ Some n) where
    rem : eqb (length e % w) 0 ≡ true
    rem = go (eqb (length e % w) 0) refl
      where
        go : (b : Bool) → eqb (length e % w) 0 ≡ b → b ≡ true
        go true m = refl
        go false m = let v = (unfit c w e [] e₁ r₁ o (fits-is c w e cw ∙ m) h).2 in let z : ◌≡◌ {A = ℕ} 0 1 = cc in absurd (omega arith)

    F : Fitting c w e []
    F = fitting c w e [] (fits-is c w e cw ∙ rem)

    -- the rows at exit are those that the law speaks of
    exit : consistent c (has (64 * c)) (rows_of w e₁) ≡ solvable c w e
    exit =
        ap (consistent c (has (64 * c))) ((left c w e [] e₁ r₁ o (fits-is c w e cw ∙ rem) h).eqs_are ∙ ap (λ (r : List Row). (solve c (rows_of w e) r).eqs) (no_rows w))
        ∙ sym (solvable-is c (rows_of w e) [] (has (64 * c)) (has-⊻ (64 * c)) (64 * c) (omega arith) (λ i l. lead_le c (at (rows_of w e) i)))

    pub verdict : (b : Bool) → b ≡ consistent c (has (64 * c)) (rows_of w e₁) → pick b Solvable Not ≡ verdict_of c w e
    unfolding verdict_of
    verdict b k = rw (lt-ltb c w cw, rem) (ap (λ (t : Bool). pick t Solvable Not) (k ∙ exit))
