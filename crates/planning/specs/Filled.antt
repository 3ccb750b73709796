-- A word with more read.
--     filled a b        the symbol b is a, or a was erased and b is 0 or 1
--     filled_in w w'     w' is w with some erased symbols filled in by 0 or 1; nothing else differs
--     fetched w w'      how many were filled in
use Rattle.std.specs.Prelude.{ℕ, ◌+◌, Bool, true, false, ◌&&◌, ◌||◌, not, List, [], ◌∷◌, eqb, ltb}
use Rattle.bits.specs.Vectors.{bit}

abbrev pub filled : ℕ → ℕ → Bool
filled a b = eqb a b || (eqb a 2 && ltb b 2)

abbrev pub filled_in : List ℕ → List ℕ → Bool
filled_in [] [] = true
filled_in [] (b ∷ w') = false
filled_in (a ∷ w) [] = false
filled_in (a ∷ w) (b ∷ w') = filled a b && filled_in w w'

abbrev pub fetched : List ℕ → List ℕ → ℕ
fetched [] w' = 0
fetched (a ∷ w) [] = 0
fetched (a ∷ w) (b ∷ w') = bit (not (eqb a b)) + fetched w w'
