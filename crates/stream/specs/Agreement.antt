-- What an input is answered by.
--     agreement s ch     the terms that a sheet and a choice set, or why there are none
use Rattle.std.specs.Prelude.{ℕ, not, length, get_or, eqb, ltb, Result, Ok, Err}
use mathlib.Core.List.{List}
use Rattle.bits.specs.Vectors.{pick}
use Rattle.meaning.specs.Limits.{largest_n}
use Rattle.meaning.specs.Stream.{n_of}
use Rattle.meaning.specs.declared.Refused.{Refused}
use Rattle.meaning.specs.declared.Refused.TheVariants.{BadShape, BadCheck}
use Rattle.stream.specs.declared.Terms.{Terms}

-- a sheet of no n is refused first, then a choice that is not two bytes: r, and the ceiling
unfoldable pub agreement : List ℕ → List ℕ → Result Terms Refused
agreement s ch =
    pick (ltb largest_n (n_of s)) (Err BadShape)
    (pick (not (eqb (length ch) 2)) (Err BadCheck)
    (Ok (record { n = n_of s; r = get_or ch 0 0; ceiling = get_or ch 1 0 })))
