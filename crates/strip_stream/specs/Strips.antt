-- Strips end to end, each repaired by itself: W-201 as 01's stream.
--     strip_bytes n, part_bytes n     bytes of a strip of N records, and of what is written for it
--     strip_reply, reply_at           the reply to one strip, and to strip k of an input
--     by_case                        by the lengths of the sheet and the choice
--     strip_count                    how many strips an input has
--     record_count, part_count        how many records and parts it gets
--     headers, parts                all records, and all parts
--     Replies, leaving_both          an answer, and the bytes of the two output buffers after the call
--     answering_strips               what the call answers and leaves
-- `s` is the sheet, `ch` the choice (two bytes: r, ceiling), `lost` the N marks, `input` the strips end to end.
use Rattle.std.specs.Prelude.{ℕ, ◌*◌, ◌^◌, not, length, drop, get_or, replicate, eqb, ltb}
use mathlib.Core.List.{List, [], ◌∷◌, ◌++◌, flatten}
use Rattle.bits.specs.Vectors.{pick, tab}
use Rattle.meaning.specs.Limits.{largest_n, head_bytes}
use Rattle.meaning.specs.Answers.{Reply, ◌⇒◌, first_of}
use Rattle.meaning.specs.Stream.{header, n_of, rounded_up, piece_at}
use Rattle.meaning.specs.declared.Answer.{Answer}
use Rattle.meaning.specs.declared.Answer.TheVariants.{Done, BadShape, BadCheck, ShortOutput}
use Rattle.strips.specs.Repairing.{repairing}

-- ---- one strip

-- N records of 64 bytes
unfoldable pub strip_bytes : ℕ → ℕ
strip_bytes n = 64 * 2 ^ n

-- the repaired strip, and N marks
unfoldable pub part_bytes : ℕ → ℕ
part_bytes n = 65 * 2 ^ n

-- where repairing leaves the output untouched, all of the part is 255
unfoldable pub strip_reply : ℕ → List ℕ → ℕ → ℕ → List ℕ → List ℕ → Reply
strip_reply n s r c lost strip = repairing n s r c strip lost (replicate (part_bytes n) 255)

-- ---- the whole input

-- the first where the sheet is no N records long; else the second where the choice is not two bytes; else the third
abbrev pub by_case : {A : Type 0} → List ℕ → List ℕ → A → A → A → A
by_case s ch shape choice right = pick (ltb largest_n (n_of s)) shape (pick (not (eqb (length ch) 2)) choice right)

-- strip k of 64 N bytes; the last may be short
abbrev pub reply_at : List ℕ → List ℕ → List ℕ → List ℕ → ℕ → Reply
reply_at s ch lost input k = strip_reply (n_of s) s (get_or ch 0 0) (get_or ch 1 0) lost (piece_at (strip_bytes (n_of s)) input k)

-- input bytes divided by 64 N, rounded up
abbrev pub strip_count : List ℕ → List ℕ → ℕ
strip_count s input = rounded_up (length input) (strip_bytes (n_of s))

-- one record alone, or one for each strip; no part, or one for each strip
unfoldable pub record_count : List ℕ → List ℕ → List ℕ → ℕ
record_count s ch input = by_case s ch 1 1 (strip_count s input)

unfoldable pub part_count : List ℕ → List ℕ → List ℕ → ℕ
part_count s ch input = by_case s ch 0 0 (strip_count s input)

-- record k is the header of the reply to strip k
unfoldable pub headers : List ℕ → List ℕ → List ℕ → List ℕ → List (List ℕ)
headers s ch lost input =
    by_case s ch (header BadShape ∷ []) (header BadCheck ∷ []) (tab (strip_count s input) (λ (k : ℕ). header (reply_at s ch lost input k).answer))

-- part k are its bytes
unfoldable pub parts : List ℕ → List ℕ → List ℕ → List ℕ → List (List ℕ)
parts s ch lost input = by_case s ch [] [] (tab (strip_count s input) (λ (k : ℕ). (reply_at s ch lost input k).bytes))

-- ---- the call

pub record Replies : Type 0 where
  pub answer : Answer
  pub repaired : List ℕ
  pub records : List ℕ

abbrev pub leaving_both : List ℕ → List ℕ → Answer → Replies
leaving_both repaired records a = record { answer = a; repaired = repaired; records = records }

-- a buffer too short is refused as 16 before all else; later bytes of both stay
unfoldable pub answering_strips : List ℕ → List ℕ → List ℕ → List ℕ → List ℕ → List ℕ → Replies
answering_strips s ch lost input repaired records =
    let ps = flatten (parts s ch lost input) in
    let hs = flatten (headers s ch lost input) in
    first_of (leaving_both repaired records)
    ((ltb (length records) (record_count s ch input * head_bytes) ⇒ ShortOutput) ∷ (ltb (length repaired) (part_count s ch input * part_bytes (n_of s)) ⇒ ShortOutput) ∷ [])
    (leaving_both (ps ++ drop (length ps) repaired) (hs ++ drop (length hs) records) Done)
