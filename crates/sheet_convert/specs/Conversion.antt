-- A sheet taken from a layout L to a wider one M: each record as it is, and zeros behind it. What converting promises.
--     wide_at L M s p        byte p of the new sheet
--     widened L M n s       the new sheet
--     convert_refusals       the old 11 and 12, then 16
--     converting            what the call answers and leaves in its buffer
--     Old, handing          the parts of the code: an old sheet of N records; a new sheet, handed out
use Rattle.std.specs.Prelude.{◌≡◌, ℕ, ◌*◌, ◌/◌, ◌%◌, ◌^◌, ◌≤◌, List, [], ◌∷◌, length, ltb}
use Rattle.bits.specs.Vectors.{pick, tab}
use Rattle.meaning.specs.Limits.{Layout, layout, old_layout, record_bytes, old_largest_n, old_record_bytes}
use Rattle.meaning.specs.Sheet.{bad_record, byte_in, bad_in}
use Rattle.meaning.specs.Answers.{Refusal, Reply, ◌⇒◌, first_of, bad_shape_in, leaving, writing}
use Rattle.meaning.specs.declared.Answer.TheVariants.{Done, BadShape, BadRecord, ShortOutput}

-- ---- the new sheet

-- byte p: the old record's byte, or 0 behind it
unfoldable pub wide_at : Layout → Layout → List ℕ → ℕ → ℕ
wide_at L M s p = pick (ltb (p % M.bytes) L.bytes) (byte_in L s (p / M.bytes) (p % M.bytes)) 0

unfoldable pub widened : Layout → Layout → ℕ → List ℕ → List ℕ
widened L M n s = tab (2 ^ n * M.bytes) (wide_at L M s)

-- ---- the call

-- the old 11 and 12, then 16: an output shorter than the new sheet
unfoldable pub convert_refusals : ℕ → List ℕ → ℕ → List Refusal
convert_refusals n s room =
    (bad_shape_in old_layout n s ⇒ BadShape)
    ∷ (ltb (bad_in old_layout n s) (2 ^ n) ⇒ BadRecord (bad_in old_layout n s))
    ∷ (ltb room (2 ^ n * record_bytes) ⇒ ShortOutput)
    ∷ []

-- else 0 with the new sheet, and bytes past it stay
unfoldable pub converting : ℕ → List ℕ → List ℕ → Reply
converting n s out = first_of (leaving out) (convert_refusals n s (length out)) (writing (widened old_layout layout n s) out Done)

-- ---- the parts of the code

-- an old sheet of N records
pub record Old (n : ℕ) (old : List ℕ) : Type 0 where
  pub small : n ≤ old_largest_n
  pub long : length old ≡ 2 ^ n * old_record_bytes

-- a sheet of today, handed out: 12 and 16, or its bytes
unfoldable pub handing : ℕ → List ℕ → List ℕ → Reply
handing n sheet out =
    first_of (leaving out)
    ((ltb (bad_record n sheet) (2 ^ n) ⇒ BadRecord (bad_record n sheet))
    ∷ (ltb (length out) (length sheet) ⇒ ShortOutput)
    ∷ [])
    (writing sheet out Done)
