-- Whole strips: N records of 64 bytes end to end, of which some are lost. Lane t is bit t mod 8 of byte t div 8 of each record. A strip's reply is put together
-- from what `decode` answers each of its 512 lanes alone.
--     lane_bit strip j t             bit t of record j
--     lane_of strip lost t           the word of lane t: 2 where the record is lost, else its bit
--     repair_form, repair_refusals    the faults, in 01's order
--     lane_reply                     what `decode` answers lane t, and leaves in a buffer of 3N bytes
--     is_inconsistent, at_lane        whether an answer is 2; what the strip then answers
--     settled_in, open_at             the settled value at place j of lane t; whether record j is not settled
--     repaired                      the repaired strip, then its marks
--     strip_reply, repairing         what a call answers and leaves in its buffer
-- `s` is the sheet, `c` the ceiling, `lost` the marks (1 where a record is lost), `out` the buffer as found.
use Rattle.std.specs.Prelude.{ℕ, ◌+◌, ◌*◌, ◌/◌, ◌%◌, ◌^◌, Bool, not, length, get_or, replicate, eqb, ltb}
use mathlib.Core.List.{List, [], ◌∷◌, ◌++◌, flatten}
use Rattle.bits.specs.Vectors.{bit, pick, tab, first_place}
use Rattle.bits.specs.Words.{bit_at}
use Rattle.meaning.specs.Limits.{largest_ceiling}
use Rattle.meaning.specs.Sheet.{rules}
use Rattle.meaning.specs.Open.{unknowns}
use Rattle.meaning.specs.Answers.{Refusal, ◌⇒◌, first_of, sheet_refusals, word_refusals, Reply, leaving, writing, numbers_of, decoding}
use Rattle.meaning.specs.declared.Answer.{Answer}
use Rattle.meaning.specs.declared.Answer.TheVariants.{LaneInconsistent, BadLength, BadCeiling, TooMany}
use Rattle.lanes.specs.Lanes.{up_to, packed}

-- ---- lanes

-- bit t mod 8 of byte t div 8 of record j
abbrev pub lane_bit : List ℕ → ℕ → ℕ → ℕ
lane_bit strip j t = bit_at (get_or strip (j * 64 + t / 8) 0) (t % 8)

-- 2 where the record is lost, else its bit
abbrev pub lane_of : List ℕ → List ℕ → ℕ → List ℕ
lane_of strip lost t = tab (length lost) (λ (j : ℕ). pick (eqb (get_or lost j 0) 0) (lane_bit strip j t) 2)

-- ---- refusals

-- the sheet's faults; 14: the strip is not 64N bytes, or there are not N marks; 15: the first mark above 1; 16: an output under 65N bytes; 17
unfoldable pub repair_form : ℕ → List ℕ → ℕ → ℕ → ℕ → List ℕ → ℕ → List Refusal
repair_form n s r c strip lost room =
    sheet_refusals n s r ++ ((not (eqb strip (2 ^ n * 64)) ⇒ BadLength) ∷ word_refusals (2 ^ n) 1 (65 * 2 ^ n) lost room) ++ ((ltb largest_ceiling c ⇒ BadCeiling) ∷ [])

-- then 18: g above the ceiling; g is that of every lane
unfoldable pub repair_refusals : ℕ → List ℕ → ℕ → ℕ → List ℕ → List ℕ → List ℕ → List Refusal
repair_refusals n s r c strip lost out =
    let g = unknowns n (rules n s) (lane_of strip lost 0) in
    repair_form n s r c (length strip) lost (length out) ++ ((ltb c g ⇒ TooMany g) ∷ [])

-- ---- the reply, from those of the lanes

-- its code is 2
abbrev pub is_inconsistent : Answer → Bool
is_inconsistent a = eqb (get_or (numbers_of a) 0 0) 2

-- 2, the lane, g, m
abbrev pub at_lane : ℕ → Answer → Answer
at_lane t a = LaneInconsistent t (get_or (numbers_of a) 2 0) (get_or (numbers_of a) 3 0)

module _ (n : ℕ) (lane : ℕ → Reply) where
  -- 0, 1, or 2 where candidates differ
  abbrev pub settled_in : ℕ → ℕ → ℕ
  settled_in t j = get_or (lane t).bytes j 0

  -- as in lane 0, so in each (proofs/Promise: settled-alike)
  abbrev pub open_at : ℕ → Bool
  open_at j = eqb (settled_in 0 j) 2

  -- byte i of a settled record: the settled bits of its eight lanes
  abbrev pub byte_at : ℕ → ℕ → ℕ
  byte_at j i = packed 8 (λ (b : ℕ). settled_in (8 * i + b) j)

  -- zeros where it is not settled
  abbrev pub record_at : ℕ → List ℕ
  record_at j = pick (open_at j) (replicate 64 0) (tab 64 (byte_at j))

  -- 64N bytes, then N marks, 1 for a record that is not settled
  abbrev pub repaired : List ℕ
  repaired = flatten (tab (2 ^ n) record_at) ++ tab (2 ^ n) (λ (j : ℕ). bit (open_at j))

  -- 512 where no lane is inconsistent
  abbrev pub first_bad : ℕ
  first_bad = first_place (λ (t : ℕ). is_inconsistent (lane t).answer) (up_to 512)

  -- 2 with the first inconsistent lane; else what any one lane is answered, and what is repaired, later bytes as found
  unfoldable pub strip_reply : List ℕ → Reply
  strip_reply out = pick (ltb first_bad 512) (leaving out (at_lane first_bad (lane first_bad).answer)) (writing repaired out (lane 0).answer)

-- what `decode` answers lane t alone, given room
abbrev pub lane_reply : ℕ → List ℕ → ℕ → ℕ → List ℕ → List ℕ → ℕ → Reply
lane_reply n s r c strip lost t = decoding n s r c (lane_of strip lost t) (replicate (3 * 2 ^ n) 0)

unfoldable pub repairing : ℕ → List ℕ → ℕ → ℕ → List ℕ → List ℕ → List ℕ → Reply
repairing n s r c strip lost out = first_of (leaving out) (repair_refusals n s r c strip lost out) (strip_reply n (lane_reply n s r c strip lost) out)
