-- The test of what a caller hands over.
--     length-checked, length_longest     which lengths a check can have
--     spaced-true     what holds where the test passes
use mathlib.Core.Path.{◌≡◌, refl}
use mathlib.Core.Logic.{◌⊎◌, inl, inr}
use Prim.Native.Nat.{ℕ, ◌+◌, ◌*◌, ◌≤◌}
use native.Mathlib.Omega.{arith}
use mathlib.Core.Bool.{true}
use lib.Dec.{leb}
use borrow.Author.Tests.{eqb-true}
use Rattle.bits.proofs.Tests.{and_l, and_r}
use Rattle.meaning.specs.Answers.{check_length}
use Rattle.descent.specs.Descending.{widest}
use Rattle.system.specs.Solving.{longest_check, spaced}

pub length-checked : {r : ℕ} → (r ≡ 0) ⊎ ((r ≡ 6) ⊎ (r ≡ 11)) → check_length r ≡ true
length-checked (inl e) = rw e refl
length-checked (inr (inl e)) = rw e refl
length-checked (inr (inr e)) = rw e refl

pub length_longest : {r : ℕ} → (r ≡ 0) ⊎ ((r ≡ 6) ⊎ (r ≡ 11)) → r ≤ longest_check
unfolding longest_check
length_longest (inl e) = omega arith
length_longest (inr (inl e)) = omega arith
length_longest (inr (inr e)) = omega arith

pub spaced-true : (r w v e : ℕ) → spaced r w v e ≡ true → (check_length r ≡ true) × (e ≡ v + r * w)
unfolding spaced
spaced-true r w v e h = let k = and_r (check_length r) _ h in (and_l _ _ h, eqb-true e (v + r * w) (and_r (leb w widest) _ k))
