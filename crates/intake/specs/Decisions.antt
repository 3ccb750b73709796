-- What a program decides by what the system answered. A number that the system answers is negative where it could not do what was asked.
--     is_opened fd               a file is open: its number is not negative
--     is_none e                  the last read answered 0: nothing was left to read
--     is_moving e                the last read, if there was one, answered more than 0: it put bytes into the room
--     Stopped n room e           why reading stopped at n bytes: they fill the room, or the last read answered 0 or failed
--     is_whole n room e          of a file n bytes were read, and that was all: they fill the room, or the last read answered 0
--     counted whole n           the bytes that count: none of a file that was not read to its end
--     goes_on written got len    there is more to do: all was written, and as many bytes were got as were asked for
use Rattle.std.specs.Prelude.{◌≡◌, ℕ, Bool, true, false, ◌&&◌, ◌||◌, ◌⊎◌, eqb, ℤ, pos, negsuc}
use Rattle.bits.specs.Vectors.{pick}
use Rattle.intake.specs.declared.End.{End}
use Rattle.intake.specs.declared.End.TheVariants.{Full, Ended, Failed}

abbrev pub is_opened : ℤ → Bool
is_opened (pos k) = true
is_opened (negsuc k) = false

abbrev pub is_none : End → Bool
is_none Full = false
is_none Ended = true
is_none (Failed why) = false

abbrev pub is_moving : End → Bool
is_moving Full = true
is_moving Ended = false
is_moving (Failed why) = false

abbrev pub Stopped : ℕ → ℕ → End → Type 0
Stopped n room end = (n ≡ room) ⊎ (is_moving end ≡ false)

abbrev pub is_whole : ℕ → ℕ → End → Bool
is_whole n room end = eqb n room || is_none end

abbrev pub counted : Bool → ℕ → ℕ
counted whole n = pick whole n 0

abbrev pub goes_on : Bool → ℕ → ℕ → Bool
goes_on written got len = written && eqb got len
