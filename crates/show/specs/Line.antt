-- The line of an answer record.
--     counted t n      a count behind its name
--     verdict          a verdict with its counts
--     between          a number between two texts
--     chosen           the row of a table that has a code
--     no_answer         what is said of a code that no answer has
--     plain_of          a refusal without a number, or no_answer
--     refusal_of        a refusal, or no_answer
--     said_of           what a record says: a verdict, a refusal, or no_answer
--     line_of r         its line
--     longest_line      the bytes of the longest line
use Rattle.std.specs.Prelude.{ℕ, ◌+◌, List, [], ◌∷◌, ◌++◌, length, eqb}
use Rattle.bits.specs.Vectors.{pick}
pub use Rattle.meaning.specs.Stream.{number_at}
use Rattle.show.specs.Text.{bytes, wide}

-- in three places
abbrev pub counted : List ℕ → ℕ → List ℕ
counted t n = t ++ wide 3 n

unfoldable pub verdict : List ℕ → ℕ → ℕ → ℕ → List ℕ
verdict t g m d = t ++ counted (bytes "g ") g ++ counted (bytes "  m ") m ++ counted (bytes "  d ") d

-- in w places or more
unfoldable pub between : List ℕ → ℕ → ℕ → List ℕ → List ℕ
between t w n u = t ++ wide w n ++ u

-- ---- the table

-- a row: a code, and what is then said
pub record Row : Type 0 where
  pub code : ℕ
  pub text : List ℕ

infixr 35 ◌⇒◌
abbrev pub ◌⇒◌ : ℕ → List ℕ → Row
k ⇒ t = record { code = k; text = t }

-- the text of the row that has this code; z where none has
abbrev pub chosen : ℕ → List Row → List ℕ → List ℕ
chosen k [] z = z
chosen k (r ∷ rs) z = pick (eqb k r.code) r.text (chosen k rs z)

abbrev pub verdicts : ℕ → ℕ → ℕ → List Row
verdicts g m d =
    (0 ⇒ verdict (bytes "unique        ") g m d)
    ∷ (1 ⇒ verdict (bytes "ambiguous     ") g m d)
    ∷ (2 ⇒ verdict (bytes "inconsistent  ") g m d)
    ∷ []

-- refusals with a number
abbrev pub numbered : ℕ → ℕ → List Row
numbered place g =
    (12 ⇒ between (bytes "refused 12    record ") 0 place (bytes " of the sheet breaks a rule"))
    ∷ (15 ⇒ between (bytes "refused 15    symbol ") 0 place (bytes " is none of 0, 1 and 2"))
    ∷ (18 ⇒ between (bytes "refused 18    g ") 3 g (bytes "  more unknowns than the ceiling allows"))
    ∷ []

-- refusals that are the same each time
abbrev pub plain : List Row
plain =
    (11 ⇒ bytes "refused 11    the sheet is not 68 N bytes long for an N up to 512; one of 20 N is old, and is to be converted")
    ∷ (13 ⇒ bytes "refused 13    choice.bin is not two bytes, or its check length is not 0, 6 or 11, or leaves no payload")
    ∷ (14 ⇒ bytes "refused 14    the word is cut off")
    ∷ (16 ⇒ bytes "refused 16    the output is too short")
    ∷ (17 ⇒ bytes "refused 17    the ceiling is above 255")
    ∷ (19 ⇒ bytes "refused 19    the sheet has no free position: it holds nothing")
    ∷ []

unfoldable pub no_answer : ℕ → List ℕ
no_answer code = between (bytes "code ") 0 code (bytes " is no answer's")

unfoldable pub plain_of : ℕ → List ℕ
plain_of code = chosen code plain (no_answer code)

unfoldable pub refusal_of : ℕ → ℕ → ℕ → List ℕ
refusal_of code place g = chosen code (numbered place g) (plain_of code)

unfoldable pub said_of : ℕ → ℕ → ℕ → ℕ → ℕ → List ℕ
said_of code place g m d = chosen code (verdicts g m d) (refusal_of code place g)

-- ---- the line

-- code, place, g, m, d stand first, two bytes each
unfoldable pub line_of : List ℕ → List ℕ
line_of r = said_of (number_at r 0) (number_at r 2) (number_at r 4) (number_at r 6) (number_at r 8) ++ 10 ∷ []

-- that of code 11; the others are shorter, whatever their numbers
unfoldable pub longest_line : ℕ
unfolding plain_of
longest_line = length (plain_of 11) + 1
