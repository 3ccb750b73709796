-- Rows of words, in lists of words: w words from a place on. Bit b of a row is bit b % 64 of its word b / 64.
--     Row, _⊻_, nought_row w       a row; the XOR of two, word by word, as long as the longer; w words of 0
--     has_at k j x, has b x        bit j of word k of x; bit b of x
--     part w at l                 the w words from `at` on
--     row w l j, rows w n l       row j of a list of rows of w words; the first n of them
--     rows_of w l                  all whole rows of l
--     at rs i, Wide w rs          row i of some rows; each row has w words
--     zeroed, copied, added       a list with one row changed, from zeros or from another list
--     copied_within, added_within   the same, from another row of the list
-- Where a row does not lie within its list, or two rows of one list overlap, the list is as found. Laws: proofs/RowLaws.
use Rattle.std.specs.Prelude.{◌≡◌, ℕ, ◌+◌, ◌*◌, ◌/◌, ◌%◌, Bool, ◌&&◌, ◌||◌, List, [], ◌∷◌, length, take, drop, get_or, replicate, leb}
use Rattle.std.proofs.Math.Seq.{paste}
use Rattle.std.specs.Int.Bits.{bit_xor}
use Rattle.bits.specs.Vectors.{pick, tab}
use Rattle.bits.specs.Words.{has_bit}

abbrev pub Row : Type 0
Row = List ℕ

-- the XOR of two rows, as long as the longer
infixl 40 ◌⊻◌
unfoldable pub ◌⊻◌ : Row → Row → Row
[] ⊻ y = y
(a ∷ x) ⊻ [] = a ∷ x
(a ∷ x) ⊻ (b ∷ y) = bit_xor a b ∷ (x ⊻ y)

-- the row of w zeros
abbrev pub nought_row : ℕ → Row
nought_row w = replicate w 0

-- bit j of word k
unfoldable pub has_at : ℕ → ℕ → Row → Bool
has_at k j x = has_bit (get_or x k 0) j

-- bit b
abbrev pub has : ℕ → Row → Bool
has b x = has_at (b / 64) (b % 64) x

-- the w words from `at` on
abbrev pub part : ℕ → ℕ → List ℕ → Row
part w at l = take w (drop at l)

-- row j of a list of rows of w words, the first n rows, and all whole rows
abbrev pub row : ℕ → List ℕ → ℕ → Row
row w l j = part w (j * w) l

abbrev pub rows : ℕ → ℕ → List ℕ → List Row
rows w n l = tab n (row w l)

abbrev pub rows_of : ℕ → List ℕ → List Row
rows_of w l = rows w (length l / w) l

-- row i of some rows
abbrev pub at : List Row → ℕ → Row
at rs i = get_or rs i []

-- each row has w words
abbrev pub Wide : ℕ → List Row → Type 0
Wide w [] = Unit {0}
Wide w (r ∷ rs) = (length r ≡ w) × Wide w rs

-- ---- one row changed

-- the w words from `at` on lie within n words
unfoldable pub lies : ℕ → ℕ → ℕ → Bool
lies n at w = leb (at + w) n

-- two rows lie within n words and have none in common
unfoldable pub apart : ℕ → ℕ → ℕ → ℕ → Bool
apart n a b w = lies n a w && lies n b w && (leb (a + w) b || leb (b + w) a)

-- the row at `to` becomes 0
unfoldable pub zeroed : List ℕ → ℕ → ℕ → List ℕ
zeroed d to w = pick (lies (length d) to w) (paste d to (nought_row w) w) d

-- the row of s at `from` goes to `to`
unfoldable pub copied : List ℕ → ℕ → List ℕ → ℕ → ℕ → List ℕ
copied d to s from w = pick (lies (length d) to w && lies (length s) from w) (paste d to (part w from s) w) d

-- the row of s at `from` is added to the row at `to`
unfoldable pub added : List ℕ → ℕ → List ℕ → ℕ → ℕ → List ℕ
added d to s from w = pick (lies (length d) to w && lies (length s) from w) (paste d to (part w to d ⊻ part w from s) w) d

-- the row at `from` goes to `to`
unfoldable pub copied_within : List ℕ → ℕ → ℕ → ℕ → List ℕ
copied_within v to from w = pick (apart (length v) to from w) (paste v to (part w from v) w) v

-- the row at `from` is added to the row at `to`
unfoldable pub added_within : List ℕ → ℕ → ℕ → ℕ → List ℕ
added_within v to from w = pick (apart (length v) to from w) (paste v to (part w to v ⊻ part w from v) w) v
