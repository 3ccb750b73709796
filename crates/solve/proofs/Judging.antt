-- The verdicts on the systems of `judged`: by the law `solvable` of gf2, and what is left of their equations.
use mathlib.Core.Path.{◌≡◌, refl, ap, ◌∙◌}
use native.Mathlib.Omega.{arith}
use mathlib.Core.Bool.{Bool, true, false}
use mathlib.Core.List.{List, [], ◌∷◌}
use Rattle.bits.specs.Vectors.{pick}
use Rattle.bits.specs.Rows.{Row, ◌⊻◌, has_at, has, at}
use Rattle.gf2.specs.Solve.{clear_at, top, pass, steps, solve}
use Rattle.gf2.specs.System.{consistent}
use Rattle.bits.proofs.RowXor.{has-⊻}
use Rattle.gf2.proofs.Leads.{lead_le}
use Rattle.gf2.proofs.Solutions.{after, solvable}
use Rattle.solve.specs.Verdicts.{verdict_of}
use Rattle.solve.specs.declared.verdict.Verdict.TheVariants.{Misfit, Solvable, Not}

-- ---- the equations

sound : List Row
sound = (1 ∷ 1 ∷ 1 ∷ []) ∷ (0 ∷ 2 ∷ 1 ∷ []) ∷ []

contradiction : List Row
contradiction = (3 ∷ 1 ∷ []) ∷ (6 ∷ 0 ∷ []) ∷ (5 ∷ 0 ∷ []) ∷ []

-- ---- whether no equation without a coefficient has the constant 1

sound-left : consistent 2 (has 128) (after 2 sound []) ≡ true
unfolding sound solve steps pass top clear_at has_at ◌⊻◌
sound-left = refl

contradiction_left : consistent 1 (has 64) (after 1 contradiction []) ≡ false
unfolding contradiction solve steps pass top clear_at has_at ◌⊻◌
contradiction_left = refl

-- ---- the verdicts

pub sound-is : verdict_of 2 3 (1 ∷ 1 ∷ 1 ∷ 0 ∷ 2 ∷ 1 ∷ []) ≡ Solvable
unfolding verdict_of sound
sound-is = ap (λ (b : Bool). pick b Solvable Not) (solvable 2 sound [] (has 128) (has-⊻ 128) 128 (omega arith) (λ i l. lead_le 2 (at sound i)) ∙ sound-left)

pub contradiction_is : verdict_of 1 2 (3 ∷ 1 ∷ 6 ∷ 0 ∷ 5 ∷ 0 ∷ []) ≡ Not
unfolding verdict_of contradiction
contradiction_is = ap (λ (b : Bool). pick b Solvable Not) (solvable 1 contradiction [] (has 64) (has-⊻ 64) 64 (omega arith) (λ i l. lead_le 1 (at contradiction i)) ∙ contradiction_left)

pub no-constant-is : verdict_of 2 2 (3 ∷ 1 ∷ []) ≡ Misfit
unfolding verdict_of
no-constant-is = refl
