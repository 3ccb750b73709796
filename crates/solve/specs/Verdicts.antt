-- Whether a system has a solution, said by its solutions and not by how it is solved.
--     solvable c w e   whether an assignment of the 64 c unknowns solves the equations
--     verdict_of c w e  that, or a misfit
use Rattle.std.specs.Prelude.{ℕ, ◌*◌, ◌%◌, Bool, ◌&&◌, List, length, eqb, ltb}
use Rattle.bits.specs.Vectors.{pick, any, all_bits}
use Rattle.bits.specs.Rows.{has, rows_of}
use Rattle.gf2.specs.System.{solves}
use Rattle.solve.specs.declared.verdict.Verdict.{Verdict}
use Rattle.solve.specs.declared.verdict.Verdict.TheVariants.{Misfit, Solvable, Not}

-- whether an assignment of the 64 c unknowns solves the equations; the constant is bit 64 c
abbrev pub solvable : ℕ → ℕ → List ℕ → Bool
solvable c w e = any (solves (has (64 * c)) (rows_of w e)) (all_bits (64 * c))

-- a row has at least one word after its coefficients, and the words are whole rows
unfoldable pub verdict_of : ℕ → ℕ → List ℕ → Verdict
verdict_of c w e = pick (ltb c w && eqb (length e % w) 0) (pick (solvable c w e) Solvable Not) Misfit
