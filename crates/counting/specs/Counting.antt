-- What `unknowns` promises.
--     counting     the number of unknowns; 0 where the sheet has not N records or the word not N symbols
use Rattle.std.specs.Prelude.{ℕ, List, length}
use Rattle.bits.specs.Vectors.{pick}
use Rattle.meaning.specs.Sheet.{rules}
use Rattle.meaning.specs.Open.{unknowns}
use Rattle.sheet.specs.Shapes.{shaped}

unfoldable pub counting : ℕ → List ℕ → List ℕ → ℕ
counting n s w = pick (shaped n (length s) (length w)) (unknowns n (rules n s) w) 0
