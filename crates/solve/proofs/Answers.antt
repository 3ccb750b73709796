-- What must be left of the systems of `held`, computed from the definitions that the promise of `eliminate` names.
use mathlib.Core.Path.{◌≡◌, refl}
use mathlib.Core.List.{[], ◌∷◌, flatten}
use Rattle.bits.specs.Rows.{◌⊻◌, has_at}
use Rattle.gf2.specs.Solve.{clear_at, top, pass, steps, solve, done, fits, solved}
use Rattle.std.specs.Prelude.{Some, None}

pub unique_is : solved 1 2 (3 ∷ 1 ∷ 2 ∷ 1 ∷ []) (1 ∷ 0 ∷ []) ≡ done (2 ∷ 1 ∷ 1 ∷ 0 ∷ []) (0 ∷ 0 ∷ []) (Some 2)
unfolding solved solve steps pass fits top flatten clear_at has_at ◌⊻◌
unique_is = refl

pub ambiguous_is : solved 2 3 (1 ∷ 1 ∷ 1 ∷ 0 ∷ 2 ∷ 1 ∷ []) (0 ∷ 1 ∷ 0 ∷ 0 ∷ 2 ∷ 0 ∷ []) ≡ done (1 ∷ 1 ∷ 1 ∷ 0 ∷ 2 ∷ 1 ∷ []) (1 ∷ 0 ∷ 1 ∷ 0 ∷ 0 ∷ 1 ∷ []) (Some 2)
unfolding solved solve steps pass fits top flatten clear_at has_at ◌⊻◌
ambiguous_is = refl

pub inconsistent_is : solved 1 2 (1 ∷ 1 ∷ 1 ∷ 0 ∷ []) (1 ∷ 0 ∷ []) ≡ done (1 ∷ 1 ∷ 0 ∷ 1 ∷ []) (0 ∷ 1 ∷ []) (Some 1)
unfolding solved solve steps pass fits top flatten clear_at has_at ◌⊻◌
inconsistent_is = refl

pub misfit_is : solved 1 2 (1 ∷ 1 ∷ 1 ∷ []) (0 ∷ 1 ∷ []) ≡ done (1 ∷ 1 ∷ 1 ∷ []) (0 ∷ 1 ∷ []) None
unfolding solved fits
misfit_is = refl

pub wide_is : solved 2 4 (5 ∷ 1 ∷ 1 ∷ 7 ∷ 4 ∷ 1 ∷ 2 ∷ 9 ∷ 1 ∷ 0 ∷ 3 ∷ 14 ∷ []) (4 ∷ 0 ∷ 0 ∷ 0 ∷ []) ≡ done (4 ∷ 1 ∷ 2 ∷ 9 ∷ 1 ∷ 0 ∷ 3 ∷ 14 ∷ 0 ∷ 0 ∷ 0 ∷ 0 ∷ []) (4 ∷ 0 ∷ 0 ∷ 0 ∷ []) (Some 2)
unfolding solved solve steps pass fits top flatten clear_at has_at ◌⊻◌
wide_is = refl

pub marked_is : solved 1 2 (6 ∷ 3 ∷ 3 ∷ 4 ∷ 5 ∷ 9 ∷ []) (7 ∷ 0 ∷ 4 ∷ 1 ∷ []) ≡ done (5 ∷ 7 ∷ 3 ∷ 4 ∷ 0 ∷ 14 ∷ []) (1 ∷ 3 ∷ 1 ∷ 6 ∷ []) (Some 2)
unfolding solved solve steps pass fits top flatten clear_at has_at ◌⊻◌
marked_is = refl
