-- 01's starred bench examples, E1 to E12 and the row with r = 6 (worked out anew for W-204), as one table: `rows`. That each `holds` is proved in proofs/Bench.
-- Each row names the sheet's bytes, the payload or the word, and the answer in full: the five numbers and every byte of a buffer that held 165.
use Rattle.std.specs.Prelude.{ℕ, zero, suc, ◌*◌, ◌-◌, ◌/◌, ◌%◌, Bool, true, false, ◌&&◌, List, [], ◌∷◌, ◌++◌, length, drop, replicate, eqb}
use Rattle.meaning.specs.Limits.{mask_bytes, record_bytes}
use Rattle.meaning.specs.Answers.{Reply, numbers_of, encoding, decoding}

-- the decimal digits of a number, k of them
abbrev pub digits : ℕ → ℕ → List ℕ → List ℕ
digits zero n l = l
digits (suc k) n l = digits k (n / 10) (n % 10 ∷ l)

-- ---- the sheets, N = 8

-- a free record, a plain frozen bit, and one that names position 3
abbrev pub free_record : List ℕ
free_record = replicate record_bytes 0

abbrev pub plain_record : List ℕ
plain_record = 1 ∷ replicate (record_bytes - 1) 0

-- sheet E: u_0 = u_1 = u_2 = 0, u_4 = u_3
abbrev pub sheet_e : List ℕ
sheet_e = plain_record ++ plain_record ++ plain_record ++ free_record ++ (1 ∷ 0 ∷ 0 ∷ 0 ∷ 8 ∷ replicate (mask_bytes - 1) 0) ++ free_record ++ free_record ++ free_record

-- u_0 = 0, others free
abbrev pub sheet0 : List ℕ
sheet0 = plain_record ++ replicate (7 * record_bytes) 0

-- ---- the rows

-- a call and its answer: five numbers, and the bytes written
pub data Row : Type 0 where
  encodes : ℕ → ℕ → Row
  decodes : List ℕ → ℕ → ℕ → List ℕ → List ℕ → Row

-- sheet E, r = 0
abbrev pub decodes_e : ℕ → List ℕ → List ℕ → Row
decodes_e w nums out = decodes sheet_e 0 w nums out

abbrev pub three : ℕ → ℕ → ℕ → List ℕ
three a b c = digits 8 a [] ++ digits 8 b [] ++ digits 8 c []

-- code, place, g, m, d
abbrev pub five : ℕ → ℕ → ℕ → ℕ → List ℕ
five c g m d = c ∷ 0 ∷ g ∷ m ∷ d ∷ []

unfoldable pub rows : List Row
rows =
    encodes 1000 01111000
    ∷ encodes 0110 01100110
    ∷ encodes 1011 00101101
    ∷ decodes_e 01111000 (five 0 0 4 0) (three 01111000 01111000 01111000)
    ∷ decodes_e 22221000 (five 0 1 1 0) (three 01111000 01111000 01111000)
    ∷ decodes_e 01112222 (five 0 1 1 0) (three 01111000 01111000 01111000)
    ∷ decodes_e 21111000 (five 0 0 3 0) (three 01111000 01111000 01111000)
    ∷ decodes_e 11111000 (five 2 0 4 0) []
    ∷ decodes_e 02200220 (five 1 1 1 1) (three 02200220 00000000 01100110)
    ∷ decodes_e 02211220 (five 1 1 1 1) (three 02211220 01111000 00011110)
    ∷ decodes_e 12200220 (five 2 1 1 0) []
    ∷ decodes_e 22222222 (five 1 4 0 4) (three 22222222 00000000 11100001)
    ∷ decodes sheet0 6 22222222 (five 1 7 6 1) (three 21122222 01100011 11111100)
    ∷ []

-- ---- what it is for a row to hold

abbrev pub alike : List ℕ → List ℕ → Bool
alike [] [] = true
alike [] (y ∷ ys) = false
alike (x ∷ xs) [] = false
alike (x ∷ xs) (y ∷ ys) = eqb x y && alike xs ys

-- a buffer of k bytes and two more, that held 165
abbrev pub held : ℕ → List ℕ
held k = replicate (suc (suc k)) 165

-- the reply has these numbers, and the buffer holds these bytes and is else as found
abbrev pub replies : Reply → List ℕ → List ℕ → ℕ → Bool
replies a nums new k = alike (numbers_of a.answer) nums && alike a.bytes (new ++ drop (length new) (held k))

unfoldable pub holds : Row → Bool
holds (encodes p x) = replies (encoding 3 sheet_e 0 (digits 4 p []) (held 8)) (five 0 0 0 0) (digits 8 x []) 8
holds (decodes s r w nums new) = replies (decoding 3 s r 63 (digits 8 w []) (held 24)) nums new 24
