-- What `conclude` promises, of rows of w words, c of them coefficients: g unknowns, m equations, `rank` of them with a pivot.
--     fits          numbers, lengths of the two lists of words and room of the output fit together
--     concluding    the reply; where they do not fit, BadShape, and the output is left
use Rattle.std.specs.Prelude.{ℕ, ◌*◌, ◌/◌, ◌%◌, Bool, ◌&&◌, List, length, eqb, leb, ltb}
use Rattle.bits.specs.Vectors.{pick}
use Rattle.bits.specs.Rows.{rows_of}
use Rattle.gf2.specs.Solve.{sys}
use Rattle.meaning.specs.Answers.{Reply, leaving}
use Rattle.meaning.specs.declared.Answer.TheVariants.{BadShape}
use Rattle.verdict.specs.OffRows.{row_verdict}

-- a word behind the coefficients, no more pivots than unknowns, whole rows, and 3 bytes for each row of a symbol
unfoldable pub fits : ℕ → ℕ → ℕ → ℕ → ℕ → ℕ → ℕ → Bool
fits c w g rank eqs vals room = ltb c w && (leb rank g && (eqb (eqs % w) 0 && (eqb (vals % w) 0 && leb (3 * (vals / w)) room)))

unfoldable pub concluding : ℕ → ℕ → ℕ → ℕ → ℕ → List ℕ → List ℕ → List ℕ → Reply
concluding c w g m rank eqs vals out =
    pick (fits c w g rank (length eqs) (length vals) (length out))
    (row_verdict c g m (sys (rows_of w eqs) (rows_of w vals) rank) out)
    (leaving out BadShape)
