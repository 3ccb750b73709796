-- What fits together, and what the rank says.
--     whole b c w n         n words are whole rows of w, with b words or more behind c of coefficients
--     by_dimension g m d    the verdict on g unknowns, d of them free, by m equations that are sound
use Rattle.std.specs.Prelude.{ℕ, ◌+◌, ◌%◌, Bool, ◌&&◌, eqb, leb}
use Rattle.bits.specs.Vectors.{pick}
use Rattle.meaning.specs.declared.Answer.{Answer}
use Rattle.meaning.specs.declared.Answer.TheVariants.{Unique, Ambiguous}

abbrev pub whole : ℕ → ℕ → ℕ → ℕ → Bool
whole b c w n = leb (c + b) w && eqb (n % w) 0

abbrev pub by_dimension : ℕ → ℕ → ℕ → Answer
by_dimension g m d = pick (eqb d 0) (Unique g m) (Ambiguous g m d)
