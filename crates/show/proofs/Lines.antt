-- The line of a record by the five numbers of its answer, and lines to be read beside the definition. Any strips stand behind.
use mathlib.Core.Path.{◌≡◌, sym, refl}
use Prim.Native.Nat.{ℕ, ◌<◌}
use mathlib.Core.List.{List, [], ◌∷◌, ◌++◌, map, flatten}
use Rattle.meaning.specs.Limits.{head_bytes}
use Rattle.meaning.specs.Stream.{two_bytes, header}
use Rattle.meaning.proofs.Heading.{two_bytes_lem}
use Rattle.meaning.specs.declared.Answer.TheVariants.{Unique, Ambiguous, BadRecord, BadSymbol, TooMany}
use Rattle.show.specs.Text.{bytes, decimal, wide, Written}
use Rattle.show.proofs.Writing.{spelt, ◌then◌}
use Rattle.show.specs.Line.{number_at, verdict, between, no_answer, plain_of, refusal_of, said_of, line_of}

-- the five numbers of a record
module _ (r : List ℕ) {code place g m d : ℕ} where
  pub line_is : code ≡ number_at r 0 → place ≡ number_at r 2 → g ≡ number_at r 4 → m ≡ number_at r 6 → d ≡ number_at r 8 → said_of code place g m d ++ 10 ∷ [] ≡ line_of r
  unfolding line_of
  line_is p q s t u = cc

  -- what is said, then the end of the line
  pub lined : {a b c : List ℕ} {k n : ℕ} → code ≡ number_at r 0 → place ≡ number_at r 2 → g ≡ number_at r 4 → m ≡ number_at r 6 → d ≡ number_at r 8
      → Written a b 0 k (said_of code place g m d) → Written b c k n (10 ∷ []) → Written a c 0 n (line_of r)
  lined p q s t u w e = spelt (w then e) (line_is p q s t u)

pub line_of_numbers : (strips : List ℕ) (code place g m d : ℕ) → code < 65536 → place < 65536 → g < 65536 → m < 65536 → d < 65536
    → line_of (flatten (map two_bytes (code ∷ place ∷ g ∷ m ∷ d ∷ [])) ++ strips) ≡ said_of code place g m d ++ 10 ∷ []
unfolding flatten
line_of_numbers strips code place g m d h i j k l = sym (line_is _ (two_bytes_lem code h) (two_bytes_lem place i) (two_bytes_lem g j) (two_bytes_lem m k) (two_bytes_lem d l))

module _ (strips : List ℕ) where
  unique : line_of (header (Unique 12 345) ++ strips) ≡ bytes "unique        g  12  m 345  d   0" ++ 10 ∷ []
  unfolding head_bytes flatten decimal wide verdict between no_answer plain_of refusal_of said_of line_of
  unique = refl

  ambiguous : line_of (header (Ambiguous 1000 65535 7) ++ strips) ≡ bytes "ambiguous     g 1000  m 65535  d   7" ++ 10 ∷ []
  unfolding head_bytes flatten decimal wide verdict between no_answer plain_of refusal_of said_of line_of
  ambiguous = refl

  record_511 : line_of (header (BadRecord 511) ++ strips) ≡ bytes "refused 12    record 511 of the sheet breaks a rule" ++ 10 ∷ []
  unfolding head_bytes flatten decimal wide verdict between no_answer plain_of refusal_of said_of line_of
  record_511 = refl

  symbol_0 : line_of (header (BadSymbol 0) ++ strips) ≡ bytes "refused 15    symbol 0 is none of 0, 1 and 2" ++ 10 ∷ []
  unfolding head_bytes flatten decimal wide verdict between no_answer plain_of refusal_of said_of line_of
  symbol_0 = refl

  too_many : line_of (header (TooMany 256) ++ strips) ≡ bytes "refused 18    g 256  more unknowns than the ceiling allows" ++ 10 ∷ []
  unfolding head_bytes flatten decimal wide verdict between no_answer plain_of refusal_of said_of line_of
  too_many = refl

  code_259 : line_of (3 ∷ 1 ∷ strips) ≡ bytes "code 259 is no answer's" ++ 10 ∷ []
  unfolding head_bytes flatten decimal wide verdict between no_answer plain_of refusal_of said_of line_of
  code_259 = refl
