-- Gauss-Jordan elimination on lists of rows, and what `eliminate` answers.
--     clear_at k j e x, clear b e x     x, with e added if x has bit j of word k; bit b
--     top f n             one more than the highest place below n at which f holds, or 0
--     lead c x            one more than the highest coefficient of x, of 64 c; 0 where it has none
--     Sys, sys            the equations, the rows that are only reduced, and how many pivots were found
--     pass, step, steps   one equation takes its highest coefficient out of all other rows; several in turn
--     solve c e r         every equation in turn
--     fits c w e r        whether the words are whole rows with c words of coefficients
--     Done, done, solved  all that a call leaves: its words and its answer
use Rattle.std.specs.Prelude.{Option, Some, None, ℕ, zero, suc, ◌+◌, ◌*◌, ◌/◌, ◌%◌, Bool, ◌&&◌, not, length, set, ltb, eqb}
use mathlib.Core.List.{List, map, flatten}
use Rattle.bits.specs.Vectors.{pick}
use Rattle.bits.specs.Rows.{Row, ◌⊻◌, has_at, has, rows_of, at}

-- x, with e added if x has bit j of word k
unfoldable pub clear_at : ℕ → ℕ → Row → Row → Row
clear_at k j e x = pick (has_at k j x) (x ⊻ e) x

-- x, with e added if x has bit b
abbrev pub clear : ℕ → Row → Row → Row
clear b e x = clear_at (b / 64) (b % 64) e x

-- one more than the highest b below n at which f holds, or 0
unfoldable pub top : (ℕ → Bool) → ℕ → ℕ
top f zero = zero
top f (suc n) = pick (f n) (suc n) (top f n)

-- one more than the highest coefficient, or 0
abbrev pub lead : ℕ → Row → ℕ
lead c x = top (λ (b : ℕ). has b x) (64 * c)

-- the equations, the rows that are only reduced, and the number of pivots found
pub record Sys : Type 0 where
  pub eqs : List Row
  pub rest : List Row
  pub rank : ℕ

abbrev pub sys : List Row → List Row → ℕ → Sys
sys e r n = record { eqs = e; rest = r; rank = n }

-- equation i, at the lead given: its highest coefficient goes out of all other rows
unfoldable pub pass : ℕ → ℕ → Sys → Sys
pass zero i s = s
pass (suc b) i s =
    let e = at s.eqs i in
    sys (set (map (clear b e) s.eqs) i e) (map (clear b e) s.rest) (s.rank + 1)

-- equation i, at its own lead
abbrev pub step : ℕ → ℕ → Sys → Sys
step c i s = pass (lead c (at s.eqs i)) i s

-- n equations, from equation i on
unfoldable pub steps : ℕ → ℕ → ℕ → Sys → Sys
steps c zero i s = s
steps c (suc n) i s = steps c n (suc i) (step c i s)

-- all equations
unfoldable pub solve : ℕ → List Row → List Row → Sys
unfolding steps
solve c e r = steps c (length e) 0 (sys e r 0)

-- ---- on words

-- all that a call leaves
pub record Done : Type 0 where
  pub eqs : List ℕ
  pub rest : List ℕ
  pub out : Option ℕ

abbrev pub done : List ℕ → List ℕ → Option ℕ → Done
done e r o = record { eqs = e; rest = r; out = o }

-- rows of at least one word, of which at most all are coefficients; nothing left over in either list
unfoldable pub fits : ℕ → ℕ → List ℕ → List ℕ → Bool
fits c w e r = not (eqb w 0) && not (ltb w c) && eqb (length e % w) 0 && eqb (length r % w) 0

-- the words of the reduced rows and the rank, or all as it was and no rank
unfoldable pub solved : ℕ → ℕ → List ℕ → List ℕ → Done
unfolding fits
solved c w e r =
    let s = solve c (rows_of w e) (rows_of w r) in
    pick (fits c w e r) (done (flatten s.eqs) (flatten s.rest) (Some s.rank)) (done e r None)
