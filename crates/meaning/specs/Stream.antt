-- The stream: one answer record for each word of the input, in its place.
--     two_bytes x           a number as two bytes, low first
--     header a             the bytes of an answer record before its strips
--     answer_record         the record of one word
--     number_at r i         the number in the bytes i and i + 1 of a record
--     n_of s             the n of a sheet, from its length; n_in L s, in any layout
--     rounded_up, piece_at, piece_end     an input cut into pieces of L bytes: how many, piece k, and where it ends; word_at, the words
--     records              all records that an input gets
--     streaming            what the call answers and leaves in its buffer
-- `s` is the sheet, `ch` the choice (two bytes: r, ceiling), `input` the words end to end.
use Rattle.std.specs.Prelude.{ℕ, suc, min, ◌+◌, ◌*◌, ◌-◌, ◌/◌, ◌%◌, ◌^◌, not, length, take, drop, get_or, replicate, eqb, ltb}
use mathlib.Core.List.{List, [], ◌∷◌, ◌++◌, map, flatten}
use Rattle.bits.specs.Vectors.{pick, tab, first_place}
use Rattle.meaning.specs.Limits.{Layout, layout, largest_n, head_bytes, strip_width}
use Rattle.meaning.specs.Answers.{numbers_of, Reply, ◌⇒◌, first_of, leaving, writing, decoding}
use Rattle.meaning.specs.declared.Answer.{Answer}
use Rattle.meaning.specs.declared.Answer.TheVariants.{Done, BadShape, BadCheck, ShortOutput}

-- ---- one record

-- two bytes, low first
abbrev pub two_bytes : ℕ → List ℕ
two_bytes x = x % 256 ∷ x / 256 % 256 ∷ []

-- code, place, g, m, d, two bytes each; the rest zero
abbrev pub header : Answer → List ℕ
header a = flatten (map two_bytes (numbers_of a)) ++ replicate (head_bytes - 10) 0

-- its bytes: the header, then three strips
unfoldable pub answer_bytes : ℕ
unfolding head_bytes strip_width
answer_bytes = head_bytes + 3 * strip_width

-- a strip, the places past N filled with 255
abbrev pub padded : List ℕ → List ℕ
padded l = l ++ replicate (strip_width - length l) 255

-- the record of one word: where decoding leaves the output untouched, all of the strips is 255
unfoldable pub answer_record : ℕ → List ℕ → ℕ → ℕ → List ℕ → List ℕ
answer_record n s r c w =
    let a = decoding n s r c w (replicate (3 * 2 ^ n) 255) in
    let b = a.bytes in
    header a.answer ++ padded (take (2 ^ n) b) ++ padded (take (2 ^ n) (drop (2 ^ n) b)) ++ padded (drop (2 * 2 ^ n) b)

-- a number read off a record, low first
abbrev pub number_at : List ℕ → ℕ → ℕ
number_at r i = get_or r i 0 + 256 * get_or r (i + 1) 0

-- the one record of an input whose sheet or choice has a wrong length
unfoldable pub refused_record : Answer → List ℕ
refused_record a = header a ++ replicate (3 * strip_width) 255

-- ---- the whole input

-- the n up to the largest for which the sheet is N records long, or one more than the largest
abbrev pub n_in : Layout → List ℕ → ℕ
n_in L s = first_place (λ (n : ℕ). eqb (length s) (2 ^ n * L.bytes)) (tab (suc L.largest) (λ (n : ℕ). n))

unfoldable pub n_of : List ℕ → ℕ
n_of s = n_in layout s

-- input bytes divided by N, rounded up; 0 for an N of 0
unfoldable pub rounded_up : ℕ → ℕ → ℕ
rounded_up a b = (a + (b - 1)) / b

-- piece k of L bytes; the last may be short
unfoldable pub piece_at : ℕ → List ℕ → ℕ → List ℕ
piece_at L input k = take L (drop (k * L) input)

-- where piece k of an input of `len` bytes ends
unfoldable pub piece_end : ℕ → ℕ → ℕ → ℕ
piece_end L len k = min ((k + 1) * L) len

-- word k of N symbols
abbrev pub word_at : ℕ → List ℕ → ℕ → List ℕ
word_at n input k = piece_at (2 ^ n) input k

-- record k is the answer to word k
unfoldable pub records : List ℕ → List ℕ → List ℕ → List (List ℕ)
records s ch input =
    let n = n_of s in
    pick (ltb largest_n n) (refused_record BadShape ∷ [])
    (pick (not (eqb (length ch) 2)) (refused_record BadCheck ∷ [])
    (tab (rounded_up (length input) (2 ^ n)) (λ (k : ℕ). answer_record n s (get_or ch 0 0) (get_or ch 1 0) (word_at n input k))))

-- an output too short for the records is refused as 16 before all else; bytes past the records stay
unfoldable pub streaming : List ℕ → List ℕ → List ℕ → List ℕ → Reply
streaming s ch input out =
    let rs = records s ch input in
    first_of (leaving out) ((ltb (length out) (length rs * answer_bytes) ⇒ ShortOutput) ∷ []) (writing (flatten rs) out Done)
