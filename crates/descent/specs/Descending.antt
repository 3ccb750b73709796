-- What `descend` promises. A sheet of N = 2 ^ n records, a word of N symbols, rows of w words (`model`'s RowValues), and room for
-- rows.
--     widest               the most words of a row
--     fitting              whether all that is handed over fits together
--     Outcome, descended   an answer, and what the three lists hold
--     descending           the answer and the lists after the call
--     refused              what stops a descent, as a refusal
use Rattle.std.specs.Prelude.{◌≡◌, ℕ, ◌-◌, ◌*◌, ◌^◌, ◌≤◌, ◌<◌, Bool, ◌&&◌, length, replicate, eqb, leb, ltb, Result, Ok, Err}
use mathlib.Core.List.{List, ◌++◌, flatten}
use Rattle.bits.specs.Vectors.{pick}
use Rattle.bits.specs.Rows.{Row, row}
use Rattle.meaning.specs.Limits.{largest_n, record_bytes}
use Rattle.meaning.specs.Sheet.{rule_at, rules}
use Rattle.meaning.specs.Open.{unknowns}
use Rattle.sheet.specs.Shapes.{shaped}
use Rattle.model.specs.Model.{Out}
use Rattle.model.specs.RowValues.{rows_out}
use Rattle.meaning.specs.declared.Refused.{Refused}
use Rattle.meaning.specs.declared.Refused.TheVariants.{BadShape, TooMany}
use Rattle.descent.specs.declared.Found.{Found}
use Rattle.descent.specs.declared.Stop.{Stop}
use Rattle.descent.specs.declared.Stop.TheVariants.{Misfit, Over}

-- ---- what fits together, by its lengths

unfoldable pub widest : ℕ
widest = 65536

-- the c words of coefficients have a place for each unknown, and a word for the constant comes behind them
unfoldable pub roomy : ℕ → ℕ → ℕ → Bool
roomy most c w = leb w widest && (ltb c w && leb most (64 * c))

-- N rows of symbols and of u, and room for as many equations
unfoldable pub filled : ℕ → ℕ → ℕ → ℕ → ℕ → Bool
filled n w vals us eqs = eqb vals (2 ^ n * w) && (eqb us (2 ^ n * w) && leb (2 ^ n * w) eqs)

unfoldable pub fitting : ℕ → ℕ → ℕ → ℕ → ℕ → ℕ → ℕ → ℕ → ℕ → Bool
fitting n sheet word most c w vals us eqs = shaped n sheet word && (roomy most c w && filled n w vals us eqs)

-- ---- the promise

pub record Outcome : Type 0 where
  pub answer : Result Found Stop
  pub vals : List ℕ
  pub us : List ℕ
  pub eqs : List ℕ

abbrev pub descended : Result Found Stop → List ℕ → List ℕ → List ℕ → Outcome
descended a vals us eqs = record { answer = a; vals = vals; us = us; eqs = eqs }

-- the model on known symbols whose rows are in a list
abbrev pub found : ℕ → List ℕ → List ℕ → ℕ → ℕ → List ℕ → Out Row
found n sheet word c w vals = rows_out c w (rule_at sheet) n word (row w vals)

-- its rows one after the other: of the symbols, of u, and of the equations, followed by zeros to a length of k words
abbrev pub written : ℕ → ℕ → ℕ → Out Row → Outcome
written k g w o =
    let m = length o.after.eqs in
    descended (Ok (record { g = g; m = m })) (flatten o.block) (flatten o.after.us) (flatten o.after.eqs ++ replicate (k - m * w) 0)

-- what does not fit, and too many unknowns, leave the lists as found
unfoldable pub descending : ℕ → List ℕ → List ℕ → ℕ → ℕ → ℕ → List ℕ → List ℕ → List ℕ → Outcome
descending n sheet word most c w vals us eqs =
    let g = unknowns n (rules n sheet) word in
    pick (fitting n (length sheet) (length word) most c w (length vals) (length us) (length eqs))
    (pick (ltb most g) (descended (Err (Over g)) vals us eqs) (written (length eqs) g w (found n sheet word c w vals)))
    (descended (Err Misfit) vals us eqs)

-- what stops a descent, as a refusal of an engine's call
abbrev pub refused : Stop → Refused
refused Misfit = BadShape
refused (Over g) = TooMany g

-- ---- the descent alone, of what fits together

pub record Ready (n sheet word c w vals us eqs : ℕ) : Type 0 where
  pub small : n ≤ largest_n
  pub records : sheet ≡ 2 ^ n * record_bytes
  pub symbols : word ≡ 2 ^ n
  pub narrow : w ≤ widest
  pub constant : c < w
  pub rows_v : vals ≡ 2 ^ n * w
  pub rows_u : us ≡ 2 ^ n * w
  pub rows_e : 2 ^ n * w ≤ eqs

-- the lists hold what the model found, the last k words, and m is the number of its equations
pub record Filled (k w : ℕ) (o : Out Row) (v u e : List ℕ) (m : ℕ) : Type 0 where
  pub vals : v ≡ flatten o.block
  pub us : u ≡ flatten o.after.us
  pub eqs : e ≡ flatten o.after.eqs ++ replicate (k - m * w) 0
  pub many : m ≡ length o.after.eqs
