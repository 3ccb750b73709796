-- Rows made of a word's symbols: w words each, the constant in word c.
--     symbol_row      the row of a symbol: the constant for 1, else 0
--     PutSymbol      row j becomes that of the symbol s
--     Placed         the first k rows are those of the first k symbols
--     Unplaced       of n rows, those from row k on are 0
use Rattle.std.specs.Prelude.{◌≡◌, ℕ, ◌≤◌, ◌<◌, List, get_or, eqb}
use Rattle.bits.specs.Vectors.{pick}
use Rattle.bits.specs.Rows.{Row, row, nought_row}
use Rattle.model.specs.RowValues.{unit_row}

abbrev pub symbol_row : ℕ → ℕ → ℕ → Row
symbol_row c w s = pick (eqb s 1) (unit_row c w) (nought_row w)

pub record PutSymbol (c w j s : ℕ) (v v' : List ℕ) : Type 0 where
  pub new : row w v' j ≡ symbol_row c w s
  pub old : (i : ℕ) → (i ≡ j → ⊥) → row w v' i ≡ row w v i

pub record Placed (c w k : ℕ) (word v : List ℕ) : Type 0 where
  pub symbols : (j : ℕ) → j < k → row w v j ≡ symbol_row c w (get_or word j 2)

pub record Unplaced (w k n : ℕ) (v : List ℕ) : Type 0 where
  pub zeros : (j : ℕ) → k ≤ j → j < n → row w v j ≡ nought_row w
