-- The verdict as it is read off reduced rows. A row has c words of coefficients, and κ gives its constant.
--     settled_by, first_by, last_by         what the row of one symbol says of it: its settled value, its first and its last
--     strips_by c κ rs                    the output of decoding, from the rows of all symbols
--     verdict_by c κ new g m s out        the reply with the output `new`, from the system s that the solver leaves
-- The decoder's rows have their constant in bit 0 of word c.
--     constant c x                       the row's constant
--     row_settled, row_first, row_last, row_strips, row_verdict      the same by this constant
use Rattle.std.specs.Prelude.{ℕ, ◌-◌, ◌*◌, Bool, true, List, ◌++◌, map, replicate, eqb}
use Rattle.bits.specs.Vectors.{◌⊕◌, bit, pick}
use Rattle.bits.specs.Rows.{Row, has}
use Rattle.gf2.specs.Solve.{Sys}
use Rattle.gf2.specs.System.{led, dot, consistent}
use Rattle.meaning.specs.Answers.{Reply, leaving, writing}
use Rattle.meaning.specs.declared.Answer.TheVariants.{Unique, Ambiguous, Inconsistent}

-- ---- by any constant

module _ (c : ℕ) (κ : Row → Bool) where
  -- 2 where a coefficient is left
  abbrev pub settled_by : Row → ℕ
  settled_by x = pick (led c x) 2 (bit (κ x))

  -- every free unknown 0
  abbrev pub first_by : Row → ℕ
  first_by x = bit (κ x)

  -- every free unknown 1
  abbrev pub last_by : Row → ℕ
  last_by x = bit (dot 0 x (replicate (64 * c) true) ⊕ κ x)

  -- the settled strip, the first agreeing codeword, the last
  abbrev pub strips_by : List Row → List ℕ
  strips_by rs = map settled_by rs ++ map first_by rs ++ map last_by rs

  -- g unknowns, m equations; g - rank of the unknowns are free
  abbrev pub verdict_by : List ℕ → ℕ → ℕ → Sys → List ℕ → Reply
  verdict_by new g m s out =
      let d = g - s.rank in
      pick (consistent c κ s.eqs)
      (pick (eqb d 0) (writing new out (Unique g m)) (writing new out (Ambiguous g m d)))
      (leaving out (Inconsistent g m))

-- ---- by the decoder's

-- bit 0 of word c
abbrev pub constant : ℕ → Row → Bool
constant c x = has (64 * c) x

abbrev pub row_settled : ℕ → Row → ℕ
row_settled c x = settled_by c (constant c) x

abbrev pub row_first : ℕ → Row → ℕ
row_first c x = first_by c (constant c) x

abbrev pub row_last : ℕ → Row → ℕ
row_last c x = last_by c (constant c) x

unfoldable pub row_strips : ℕ → List Row → List ℕ
row_strips c rs = strips_by c (constant c) rs

unfoldable pub row_verdict : ℕ → ℕ → ℕ → Sys → List ℕ → Reply
row_verdict c g m s out = verdict_by c (constant c) (row_strips c s.rest) g m s out
