-- The check's shift register over machine words: one column of the rows, that is word k of each of them.
--     word_values unit      words as the decoder's values
--     unit_word c k         word k of the constant's row
--     column w n l k       word k of each of the first n rows of w words
--     fed r s b            the register s of r words once the word b went in
--     tapped, plus_at       a word added where the polynomial has terms, and at one place
--     taps r               the places of the terms
--     turned p h, slot     a ring of words whose first place is h, and where place j is
--     fed_all r s v         the same for all words of v
--     remainder            the register after the free positions of a column
--     Put, ColumnsUpTo     one column written to rows of w words; the columns below k
use Rattle.std.specs.Prelude.{◌≡◌, ℕ, ◌+◌, ◌-◌, ◌*◌, ◌<◌, false, List, [], ◌∷◌, ◌++◌, length, get_or, set, take, drop, replicate, eqb, ltb}
use Rattle.std.specs.Int.Bits.{bit_xor}
use Rattle.bits.specs.Vectors.{bit, pick, tab}
use Rattle.meaning.specs.Sheet.{rule_at}
use Rattle.meaning.specs.Check.{poly}
use Rattle.model.specs.Model.{Values, free_of}

-- a word of each row: sums by XOR, and the word that it has in the constant's row. The check hands out no unknowns
abbrev pub word_values : ℕ → Values ℕ
word_values unit = record { plus = bit_xor; nought = 0; unit = unit; unknown = λ k. 0 }

abbrev pub unit_word : ℕ → ℕ → ℕ
unit_word c k = bit (eqb k c)

abbrev pub column : ℕ → ℕ → List ℕ → ℕ → List ℕ
column w n l k = tab n (λ (i : ℕ). get_or l (i * w + k) 0)

-- ---- the register

-- what stands at place j after the shift: the word behind it, or the new one
abbrev pub moved : List ℕ → ℕ → ℕ → ℕ
moved s b j = pick (ltb (j + 1) (length s)) (get_or s (j + 1) 0) b

-- and, where the polynomial has a term, with the word o that went out added
abbrev pub fed_at : ℕ → List ℕ → ℕ → ℕ → ℕ → ℕ
fed_at r s b o j = bit_xor (moved s b j) (pick (get_or (poly r) j false) o 0)

unfoldable pub fed : ℕ → List ℕ → ℕ → List ℕ
fed r s b = tab r (fed_at r s b (get_or s 0 0))

-- and in two steps: the shift, and the word that went out added to the terms' places
abbrev pub tapped : ℕ → List ℕ → ℕ → List ℕ
tapped r s o = tab r (λ (j : ℕ). bit_xor (get_or s j 0) (pick (get_or (poly r) j false) o 0))

-- the places of those terms
abbrev pub taps : ℕ → List ℕ
taps r = pick (eqb r 6) (0 ∷ 5 ∷ []) (pick (eqb r 11) (0 ∷ 1 ∷ 5 ∷ 10 ∷ []) [])

abbrev pub plus_at : List ℕ → ℕ → ℕ → List ℕ
plus_at s j o = set s j (bit_xor (get_or s j 0) o)

-- ---- the ring: the register starts at place h of p

abbrev pub turned : List ℕ → ℕ → List ℕ
turned p h = drop h p ++ take h p

-- where its place j is
unfoldable pub slot : ℕ → ℕ → ℕ → ℕ
slot r h j = pick (ltb (h + j) r) (h + j) (h + j - r)

abbrev pub fed_all : ℕ → List ℕ → List ℕ → List ℕ
fed_all r s [] = s
fed_all r s (b ∷ v) = fed_all r (fed r s b) v

-- the register of r words after the free positions of column k of the first n rows. It starts from the check's leading ones
unfoldable pub remainder : ℕ → List ℕ → ℕ → List ℕ → ℕ → ℕ → ℕ → List ℕ
remainder r sheet n us w c k = fed_all r (replicate r (unit_word c k)) (free_of (tab n (rule_at sheet)) (column w n us k))

-- ---- the columns of r rows of w words

-- the words of s are column k of the rows e, and all else is as in e₀
pub record Put (w k : ℕ) (s e₀ e : List ℕ) : Type 0 where
  pub new : (j : ℕ) → j < length s → get_or e (j * w + k) 0 ≡ get_or s j 0
  pub old : (j q : ℕ) → q < w → (q ≡ k → ⊥) → get_or e (j * w + q) 0 ≡ get_or e₀ (j * w + q) 0

-- column q of r rows is f q, for each q below k
abbrev pub ColumnsUpTo : ℕ → ℕ → (ℕ → List ℕ) → ℕ → List ℕ → Type 0
ColumnsUpTo r w f k e = (j q : ℕ) → j < r → q < k → get_or e (j * w + q) 0 ≡ get_or (f q) j 0
