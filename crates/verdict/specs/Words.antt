-- A row of c words of coefficients, then the constant in bit 0 of word c.
--     agreeable c x     the row has a coefficient or the constant 0
use Rattle.std.specs.Prelude.{ℕ, Bool, ◌||◌, not}
use Rattle.bits.specs.Rows.{Row}
use Rattle.gf2.specs.System.{led}
use Rattle.verdict.specs.OffRows.{constant}

abbrev pub agreeable : ℕ → Row → Bool
agreeable c x = led c x || not (constant c x)
