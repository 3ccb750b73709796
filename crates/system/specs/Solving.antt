-- What `solve` promises. A sheet of N = 2 ^ n records, a word of N symbols, the rows of its known symbols, and room for the rows of
-- u and of the equations; rows of w words, c of them coefficients (`model`'s RowValues).
--     spaced, fitting     whether all that is handed over fits together
--     Outcome, leaves     an answer, and what the three lists hold
--     reduced             the answer and the lists where it does, of g unknowns
--     solving             the answer and the lists after the call
--     longest_check        the most rows that it adds to N for the equations
--     Settling, settled   what the last step asks and does: the check's equations behind those of a descent, and all solved
use Rattle.std.specs.Prelude.{◌≡◌, ℕ, ◌+◌, ◌-◌, ◌*◌, ◌^◌, ◌≤◌, ◌<◌, Bool, true, ◌&&◌, length, drop, replicate, eqb, leb, ltb, Result, Ok, Err}
use mathlib.Core.List.{List, ◌++◌, flatten}
use Rattle.bits.specs.Vectors.{pick}
use Rattle.bits.specs.Rows.{Row, row, rows}
use Rattle.meaning.specs.Limits.{largest_n, record_bytes}
use Rattle.meaning.specs.Sheet.{rule_at, rules}
use Rattle.meaning.specs.Open.{unknowns}
use Rattle.model.specs.Model.{Out}
use Rattle.model.specs.RowValues.{rows_out, rows_system}
use Rattle.gf2.specs.Solve.{Sys, solve}
use Rattle.meaning.specs.Answers.{check_length}
use Rattle.checks.specs.Checking.{check_of}
use Rattle.descent.specs.Descending.{widest}
use Rattle.descent.specs.Descending as descent
use Rattle.descent.specs.declared.Stop.{Stop}
use Rattle.descent.specs.declared.Stop.TheVariants.{Misfit, Over}
use Rattle.descent.specs.declared.Found.{Found}
use Rattle.system.specs.declared.Solved.{Solved}
use Rattle.system.specs.declared.Terms.{Terms}

-- ---- what fits together, by its lengths

unfoldable pub longest_check : ℕ
longest_check = 11

-- there is a check of length r, and r rows more for equations than for symbols
unfoldable pub spaced : ℕ → ℕ → ℕ → ℕ → Bool
spaced r w vals eqs = check_length r && (leb w widest && eqb eqs (vals + r * w))

-- and the rest is as a descent asks
unfoldable pub fitting : ℕ → ℕ → ℕ → ℕ → ℕ → ℕ → ℕ → ℕ → ℕ → ℕ → Bool
fitting n sheet word r most c w vals us eqs = spaced r w vals eqs && descent.fitting n sheet word most c w vals us eqs

-- ---- the promise

pub record Outcome : Type 0 where
  pub answer : Result Solved Stop
  pub vals : List ℕ
  pub us : List ℕ
  pub eqs : List ℕ

abbrev pub leaves : Result Solved Stop → List ℕ → List ℕ → List ℕ → Outcome
leaves a vals us eqs = record { answer = a; vals = vals; us = us; eqs = eqs }

-- the symbols' rows reduced by the equations, the rows of u, and the equations reduced by each other, with zeros behind them
abbrev pub reduced : ℕ → ℕ → ℕ → ℕ → List ℕ → List ℕ → List ℕ → ℕ → Outcome
reduced n r c w sheet word vals g =
    let o : Out Row = rows_out c w (rule_at sheet) n word (row w vals) in
    let s : Sys = solve c (rows_system c w (rule_at sheet) n word (row w vals) r) o.block in
    let m = length o.after.eqs + r in
    leaves (Ok (record { g = g; m = m; rank = s.rank })) (flatten s.rest) (flatten o.after.us) (flatten s.eqs ++ replicate ((2 ^ n + r - m) * w) 0)

-- what does not fit, and too many unknowns, leave the lists as found
unfoldable pub solving : ℕ → ℕ → ℕ → ℕ → ℕ → List ℕ → List ℕ → List ℕ → List ℕ → List ℕ → Outcome
solving n r most c w sheet word vals us eqs =
    let g = unknowns n (rules n sheet) word in
    pick (fitting n (length sheet) (length word) r most c w (length vals) (length us) (length eqs))
    (pick (ltb most g) (leaves (Err (Over g)) vals us eqs) (reduced n r c w sheet word vals g))
    (leaves (Err Misfit) vals us eqs)

-- ---- the last step

pub record Settling (t : Terms) (sheet : List ℕ) (m : ℕ) (vals us eqs : List ℕ) : Type 0 where
  pub small : t.n ≤ largest_n
  pub records : length sheet ≡ 2 ^ t.n * record_bytes
  pub check : check_length t.r ≡ true
  pub constant : t.coeffs < t.words
  pub narrow : t.words ≤ widest
  pub rows_v : length vals ≡ 2 ^ t.n * t.words
  pub rows_u : length us ≡ 2 ^ t.n * t.words
  pub rows_e : (m + t.r) * t.words ≤ length eqs

abbrev pub settled : Terms → List ℕ → Found → List ℕ → List ℕ → List ℕ → Outcome
settled t sheet found vals us eqs =
    let s : Sys = solve t.coeffs (rows t.words found.m eqs ++ check_of t.n sheet t.r t.coeffs t.words us) (rows t.words (2 ^ t.n) vals) in
    let m = found.m + t.r in
    leaves (Ok (record { g = found.g; m = m; rank = s.rank })) (flatten s.rest) us (flatten s.eqs ++ drop (m * t.words) eqs)
