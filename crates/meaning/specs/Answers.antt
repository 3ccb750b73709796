-- The answers: their five numbers, the table of refusals of each call, and what each call answers and leaves in its buffer.
--     numbers_of a          code, place, g, m, d; is_done a, whether it is Done
--     Refusal, first_of     a row of a table of refusals; the first that applies is given
--     refuses, fault       whether a row applies; what a table answers by itself
--     check_length          r is 0, 6 or 11
--     sheet_refusals        the rows of a sheet's faults; sheet_faults, bad_shape_in L, in any layout
--     call_refusals         11 to 16 of a call: the sheet's faults, then those of its word and its room
--     Reply, reply         an answer, and the bytes of the output buffer after the call; leaving, writing, as found or written
--     checking             the sheet alone, with its r; checking_in L, a sheet in any layout (proofs/Layouts)
--     wording              a word alone
--     encoding, reading_back, decoding      the calls with a buffer
-- `s` is the sheet, `w` the word, `p` the payload, `c` the ceiling, `out` the buffer as found, `room` its length.
use Rattle.std.specs.Prelude.{ℕ, ◌*◌, ◌-◌, ◌^◌, Bool, true, false, ◌&&◌, ◌||◌, not, List, [], ◌∷◌, ◌++◌, map, length, drop, eqb, leb, ltb}
use Rattle.bits.specs.Vectors.{bit, pick, any, first_place}
use Rattle.meaning.specs.Limits.{Layout, layout, largest_ceiling}
use Rattle.meaning.specs.Sheet.{Rule, rules, bad_record, rules_in, bad_in, frees}
use Rattle.meaning.specs.Codewords.{candidates, payload_of, carrying}
use Rattle.meaning.specs.Open.{unknowns, equations}
use Rattle.meaning.specs.Strips.{first, strips, dimension}
use Rattle.meaning.specs.declared.Answer.{Answer}
use Rattle.meaning.specs.declared.Answer.TheVariants.{Done, Unique, Ambiguous, Inconsistent, LaneInconsistent, BadShape, BadRecord, BadCheck, BadLength, BadSymbol, ShortOutput, BadCeiling, TooMany, HoldsNothing}

-- ---- the numbers of each answer

-- code, place, unknowns g, equations m, dimension d
abbrev pub numbers_of : Answer → List ℕ
numbers_of Done = 0 ∷ 0 ∷ 0 ∷ 0 ∷ 0 ∷ []
numbers_of (Unique g m) = 0 ∷ 0 ∷ g ∷ m ∷ 0 ∷ []
numbers_of (Ambiguous g m d) = 1 ∷ 0 ∷ g ∷ m ∷ d ∷ []
numbers_of (Inconsistent g m) = 2 ∷ 0 ∷ g ∷ m ∷ 0 ∷ []
numbers_of (LaneInconsistent t g m) = 2 ∷ t ∷ g ∷ m ∷ 0 ∷ []
numbers_of BadShape = 11 ∷ 0 ∷ 0 ∷ 0 ∷ 0 ∷ []
numbers_of (BadRecord i) = 12 ∷ i ∷ 0 ∷ 0 ∷ 0 ∷ []
numbers_of BadCheck = 13 ∷ 0 ∷ 0 ∷ 0 ∷ 0 ∷ []
numbers_of BadLength = 14 ∷ 0 ∷ 0 ∷ 0 ∷ 0 ∷ []
numbers_of (BadSymbol i) = 15 ∷ i ∷ 0 ∷ 0 ∷ 0 ∷ []
numbers_of ShortOutput = 16 ∷ 0 ∷ 0 ∷ 0 ∷ 0 ∷ []
numbers_of BadCeiling = 17 ∷ 0 ∷ 0 ∷ 0 ∷ 0 ∷ []
numbers_of (TooMany g) = 18 ∷ 0 ∷ g ∷ 0 ∷ 0 ∷ []
numbers_of HoldsNothing = 19 ∷ 0 ∷ 0 ∷ 0 ∷ 0 ∷ []

-- whether a call can go on
abbrev pub is_done : Answer → Bool
is_done Done = true
is_done (Unique g m) = false
is_done (Ambiguous g m d) = false
is_done (Inconsistent g m) = false
is_done (LaneInconsistent t g m) = false
is_done BadShape = false
is_done (BadRecord i) = false
is_done BadCheck = false
is_done BadLength = false
is_done (BadSymbol i) = false
is_done ShortOutput = false
is_done BadCeiling = false
is_done (TooMany g) = false
is_done HoldsNothing = false

-- ---- refusals

-- a row of a table: whether it applies, and what is then answered
pub record Refusal : Type 0 where
  pub applies : Bool
  pub answer : Answer

infixr 35 ◌⇒◌
abbrev pub ◌⇒◌ : Bool → Answer → Refusal
t ⇒ a = record { applies = t; answer = a }

-- the first row that applies is given, as the call's result; z where none does
abbrev pub first_of : {A : Type 0} → (Answer → A) → List Refusal → A → A
first_of f [] z = z
first_of f (t ∷ ts) z = pick t.applies (f t.answer) (first_of f ts z)

-- whether a row applies
abbrev pub refuses : List Refusal → Bool
refuses ts = any (λ (t : Refusal). t.applies) ts

-- what a table answers by itself: its first row that applies, Done where none does
abbrev pub fault : List Refusal → Answer
fault ts = first_of (λ (a : Answer). a) ts Done

-- 11: n above the largest, or a sheet that is not N records long
abbrev pub bad_shape_in : Layout → ℕ → List ℕ → Bool
bad_shape_in L n s = ltb L.largest n || not (eqb (length s) (2 ^ n * L.bytes))

unfoldable pub bad_shape : ℕ → List ℕ → Bool
bad_shape n s = bad_shape_in layout n s

-- there is a check of length r
abbrev pub check_length : ℕ → Bool
check_length r = eqb r 0 || eqb r 6 || eqb r 11

-- 13: r not 0, 6, 11, or r > 0 and K ≤ r
unfoldable pub bad_check : ℕ → ℕ → Bool
bad_check r k = not (check_length r) || (ltb 0 r && leb k r)

-- the sheet's faults, in every call: 11, 12, 19 (no free position), 13; of its shape, its first bad record, and K
abbrev pub sheet_faults : ℕ → ℕ → Bool → ℕ → ℕ → List Refusal
sheet_faults n r shape bad k =
    (shape ⇒ BadShape)
    ∷ (ltb bad (2 ^ n) ⇒ BadRecord bad)
    ∷ (eqb k 0 ⇒ HoldsNothing)
    ∷ (bad_check r k ⇒ BadCheck)
    ∷ []

unfoldable pub sheet_refusals : ℕ → List ℕ → ℕ → List Refusal
sheet_refusals n s r = sheet_faults n r (bad_shape n s) (bad_record n s) (frees (rules n s))

-- 14, 15, 16: a word not as long as wanted, its first symbol above the top, an output shorter than needed
unfoldable pub word_refusals : ℕ → ℕ → ℕ → List ℕ → ℕ → List Refusal
word_refusals wanted top needed w room =
    (not (eqb (length w) wanted) ⇒ BadLength)
    ∷ (ltb (first_place (ltb top) w) (length w) ⇒ BadSymbol (first_place (ltb top) w))
    ∷ (ltb room needed ⇒ ShortOutput)
    ∷ []

-- 11 to 16 of a call: the sheet's faults, then those of its word and its room
abbrev pub call_refusals : ℕ → List ℕ → ℕ → ℕ → ℕ → ℕ → List ℕ → ℕ → List Refusal
call_refusals n s r wanted top needed w room = sheet_refusals n s r ++ word_refusals wanted top needed w room

-- ---- the sheet alone

unfoldable pub checking : ℕ → List ℕ → ℕ → Answer
checking n s r = fault (sheet_refusals n s r)

unfoldable pub checking_in : Layout → ℕ → List ℕ → ℕ → Answer
checking_in L n s r = fault (sheet_faults n r (bad_shape_in L n s) (bad_in L n s) (frees (rules_in L n s)))

-- ---- a word alone, with what its call wants and the room it is given

unfoldable pub wording : ℕ → ℕ → ℕ → List ℕ → ℕ → Answer
wording wanted top needed w room = fault (word_refusals wanted top needed w room)

-- ---- the calls with a buffer

-- the answer, and the bytes of the buffer after the call
pub record Reply : Type 0 where
  pub answer : Answer
  pub bytes : List ℕ

abbrev pub reply : List ℕ → Answer → Reply
reply bytes a = record { answer = a; bytes = bytes }

-- the buffer is left as found
abbrev pub leaving : List ℕ → Answer → Reply
leaving out a = reply out a

-- the buffer starts with these bytes, and later ones are as found
abbrev pub writing : List ℕ → List ℕ → Answer → Reply
writing new out a = reply (new ++ drop (length new) out) a

-- encoding has the sheet's faults and 14 to 16, needs N bytes, answers 0 and writes N symbols
unfoldable pub encode_refusals : ℕ → List ℕ → ℕ → List ℕ → ℕ → List Refusal
encode_refusals n s r p room = call_refusals n s r (frees (rules n s) - r) 1 (2 ^ n) p room

-- a symbol as a bit
abbrev pub is_one : ℕ → Bool
is_one b = eqb b 1

unfoldable pub encoding : ℕ → List ℕ → ℕ → List ℕ → List ℕ → Reply
encoding n s r p out = first_of (leaving out) (encode_refusals n s r p (length out)) (writing (first (carrying n (rules n s) r (map is_one p))) out Done)

-- read-back has the sheet's faults and 14 to 16, needs K - r bytes, answers 0 with the payload or 2 where the word isn't a codeword
unfoldable pub read_refusals : ℕ → List ℕ → ℕ → List ℕ → ℕ → List Refusal
read_refusals n s r w room = call_refusals n s r (2 ^ n) 1 (frees (rules n s) - r) w room

-- a word with nothing erased agrees with one codeword, or with none
unfoldable pub payload_read : ℕ → List Rule → ℕ → List (List Bool) → List ℕ → Reply
payload_read n ks r [] out = leaving out (Inconsistent 0 0)
payload_read n ks r (x ∷ cs) out = writing (map bit (payload_of n ks r x)) out Done

unfoldable pub reading_back : ℕ → List ℕ → ℕ → List ℕ → List ℕ → Reply
reading_back n s r w out = first_of (leaving out) (read_refusals n s r w (length out)) (payload_read n (rules n s) r (candidates n (rules n s) r w) out)

-- decoding needs 3N bytes. The sheet's faults and 14 to 17: a fault of form, or no room to answer
unfoldable pub form_refusals : ℕ → List ℕ → ℕ → ℕ → List ℕ → ℕ → List Refusal
form_refusals n s r c w room = call_refusals n s r (2 ^ n) 2 (3 * 2 ^ n) w room ++ ((ltb largest_ceiling c ⇒ BadCeiling) ∷ [])

-- then 18: g above the ceiling
unfoldable pub decode_refusals : ℕ → List ℕ → ℕ → ℕ → List ℕ → ℕ → List Refusal
decode_refusals n s r c w room = let g = unknowns n (rules n s) w in form_refusals n s r c w room ++ ((ltb c g ⇒ TooMany g) ∷ [])

-- none agrees, one does, or several do
unfoldable pub verdict : ℕ → ℕ → ℕ → List (List Bool) → List ℕ → Reply
verdict n g m [] out = leaving out (Inconsistent g m)
verdict n g m (x ∷ []) out = writing (strips n (x ∷ [])) out (Unique g m)
verdict n g m (x ∷ y ∷ cs) out = writing (strips n (x ∷ y ∷ cs)) out (Ambiguous g m (dimension (x ∷ y ∷ cs)))

unfoldable pub decoding : ℕ → List ℕ → ℕ → ℕ → List ℕ → List ℕ → Reply
decoding n s r c w out =
    let ks = rules n s in
    first_of (leaving out) (decode_refusals n s r c w (length out)) (verdict n (unknowns n ks w) (equations n ks r w) (candidates n ks r w) out)
