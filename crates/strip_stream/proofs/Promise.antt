-- What follows from the promise of `answer`: of any answer, and any bytes of the two buffers after the call.
--     strips_determined                 any two results that the promise allows are equal
--     short_untouched, room-written     16 exactly where a buffer is too short, and then nothing is touched; else records and parts are written, and
--                                       later bytes stay
--     record_count_lem, part-count          as many records and parts as input bytes divided by 64N, rounded up
--     record_at_lem, part_at                record k and part k, each at its byte, are the reply to strip k
--     untouched                         where repairing leaves its output untouched, all of the part is 255
--     strip_alone                       record k and part k depend on strip k alone
--     cut_all                           an input cut at multiples of 64N: the parts, answered one after the other, leave the same bytes in both buffers
use mathlib.Core.Path.{◌≡◌, refl, sym, ap, ap₂, ◌∙◌}
use mathlib.Core.Logic.{◌⊎◌, inl, inr}
use Prim.Native.Nat.{ℕ, ◌*◌, ◌≤◌, ◌<◌}
use native.Mathlib.Omega.{arith}
use mathlib.Core.Bool.{Bool, true, false, true≢false}
use mathlib.Core.List.{List, [], ◌∷◌, ◌++◌, map, flatten}
use lib.ListN.{length, take, drop, get_or, replicate}
use lib.Seq.{take_at}
use lib.Dec.{ltb}
use borrow.Author.Tests.{lt-ltb, le-ltb}
use Rattle.bits.specs.Rows.{row}
use Rattle.bits.proofs.Tests.{tab-at}
use Rattle.bits.proofs.Records.{record_of_lem}
use Rattle.meaning.specs.Limits.{largest_n, head_bytes}
use Rattle.meaning.specs.Answers.{Reply, leaving}
use Rattle.meaning.specs.Stream.{header, n_of, piece_at}
use Rattle.meaning.specs.declared.Answer.{Answer}
use Rattle.meaning.specs.declared.Answer.TheVariants.{Done, ShortOutput}
use Rattle.meaning.proofs.Determined.{determined}
use Rattle.meaning.proofs.Cutting.{WholePieces, cut_flat}
use Rattle.strips.specs.Repairing.{repairing}
use Rattle.strip_stream.specs.Strips.{strip_bytes, part_bytes, strip_reply, strip_count, record_count, part_count, headers, parts, Replies, leaving_both, answering_strips}
use Rattle.strip_stream.proofs.Cases.{right, strip-pos, headers-wide, parts-wide, headers-many, parts-many}
use Rattle.strip_stream.proofs.Writing.{headers-bytes, parts-bytes, short_records, short_repaired, answered}

-- x and y are the bytes of the two buffers after the call
module _ (s ch lost input repaired records : List ℕ) where
  pub strips_determined : (x y x' y' : List ℕ) (a a' : Answer) → leaving_both x y a ≡ answering_strips s ch lost input repaired records
      → leaving_both x' y' a' ≡ answering_strips s ch lost input repaired records → (a ≡ a') × (x ≡ x') × (y ≡ y')
  strips_determined x y x' y' a a' p q =
      let e = determined (leaving_both x y a) (leaving_both x' y' a') (answering_strips s ch lost input repaired records) p q in
      (ap (λ (t : Replies). t.answer) e, ap (λ (t : Replies). t.repaired) e, ap (λ (t : Replies). t.records) e)

  module _ (x y : List ℕ) (a : Answer) (p : leaving_both x y a ≡ answering_strips s ch lost input repaired records) where
    alike : (x' y' : List ℕ) (a' : Answer) → answering_strips s ch lost input repaired records ≡ leaving_both x' y' a' → (a ≡ a') × (x ≡ x') × (y ≡ y')
    alike x' y' a' e = strips_determined x y x' y' a a' p (sym e)

    -- too short a buffer is refused, and nothing is touched
    pub short_untouched : (length records < record_count s ch input * head_bytes) ⊎ (length repaired < part_count s ch input * part_bytes (n_of s))
        → (a ≡ ShortOutput) × (x ≡ repaired) × (y ≡ records)
    short_untouched h = alike repaired records ShortOutput (go (ltb (length records) (record_count s ch input * head_bytes)) refl h)
      where
        go : (b : Bool) → ltb (length records) (record_count s ch input * head_bytes) ≡ b → (length records < record_count s ch input * head_bytes) ⊎ (length repaired < part_count s ch input * part_bytes (n_of s))
            → answering_strips s ch lost input repaired records ≡ leaving_both repaired records ShortOutput
        go true e q = sym (short_records s ch lost input repaired records e)
        go false e (inl q) = absurd (true≢false (sym (lt-ltb (length records) (record_count s ch input * head_bytes) q) ∙ e))
        go false e (inr q) = sym (short_repaired s ch lost input repaired records e (lt-ltb (length repaired) (part_count s ch input * part_bytes (n_of s)) q))

    -- and else the records and parts are written, and later bytes are as found
    pub room-written : record_count s ch input * head_bytes ≤ length records → part_count s ch input * part_bytes (n_of s) ≤ length repaired
        → (a ≡ Done) × (x ≡ flatten (parts s ch lost input) ++ drop (part_count s ch input * part_bytes (n_of s)) repaired)
        × (y ≡ flatten (headers s ch lost input) ++ drop (record_count s ch input * head_bytes) records)
    room-written h q =
        alike _ _ Done
        (sym (answered s ch lost input repaired records (le-ltb (length records) (record_count s ch input * head_bytes) h) (le-ltb (length repaired) (part_count s ch input * part_bytes (n_of s)) q) _ _ refl refl))

-- ---- calls with room

-- a call of `answer` that had room: what it was handed, its answer, and its buffers as found and after the call
pub record Call (s ch lost : List ℕ) : Type 0 where
  pub input : List ℕ
  pub found_repaired : List ℕ
  pub found_records : List ℕ
  pub repaired : List ℕ
  pub records : List ℕ
  pub answer : Answer
  pub roomy_records : record_count s ch input * head_bytes ≤ length found_records
  pub roomy_repaired : part_count s ch input * part_bytes (n_of s) ≤ length found_repaired
  pub promise : leaving_both repaired records answer ≡ answering_strips s ch lost input found_repaired found_records

-- the bytes of the records and of the parts that it left
abbrev pub records_left : {s ch lost : List ℕ} → Call s ch lost → List ℕ
records_left {s} {ch} c = take (record_count s ch c.input * head_bytes) c.records

abbrev pub parts_left : {s ch lost : List ℕ} → Call s ch lost → List ℕ
parts_left {s} {ch} c = take (part_count s ch c.input * part_bytes (n_of s)) c.repaired

module _ {s ch lost : List ℕ} (c : Call s ch lost) where
  abbrev hs : List (List ℕ)
  hs = headers s ch lost c.input

  abbrev ps : List (List ℕ)
  ps = parts s ch lost c.input

  wrote : (c.answer ≡ Done) × (c.repaired ≡ flatten ps ++ drop (part_count s ch c.input * part_bytes (n_of s)) c.found_repaired)
      × (c.records ≡ flatten hs ++ drop (record_count s ch c.input * head_bytes) c.found_records)
  wrote = room-written s ch lost c.input c.found_repaired c.found_records c.repaired c.records c.answer c.promise c.roomy_records c.roomy_repaired

  records-left : records_left c ≡ flatten hs
  records-left = ap (take (record_count s ch c.input * head_bytes)) wrote.2 ∙ take_at (flatten hs) _ (record_count s ch c.input * head_bytes) (headers-bytes s ch lost c.input)

  parts-left : parts_left c ≡ flatten ps
  parts-left = ap (take (part_count s ch c.input * part_bytes (n_of s))) wrote.1 ∙ take_at (flatten ps) _ (part_count s ch c.input * part_bytes (n_of s)) (parts-bytes s ch lost c.input)

-- ---- where the sheet and the choice have a right length

module _ (s ch lost : List ℕ) (h : n_of s ≤ largest_n) (two : length ch ≡ 2) where
  abbrev n : ℕ
  n = n_of s

  -- the reply to a strip
  abbrev pub reply_to : List ℕ → Reply
  reply_to strip = strip_reply n s (get_or ch 0 0) (get_or ch 1 0) lost strip

  pub record_count_lem : (input : List ℕ) → record_count s ch input ≡ strip_count s input
  record_count_lem input = (right s ch lost input h two).many

  pub part-count : (input : List ℕ) → part_count s ch input ≡ strip_count s input
  part-count input = (right s ch lost input h two).each

  module _ (c : Call s ch lost) (k : ℕ) (l : k < strip_count s c.input) where
    pub record_at_lem : row head_bytes c.records k ≡ header (reply_to (piece_at (strip_bytes n) c.input k)).answer
    record_at_lem =
        let lk : k < length (hs c) = omega (arith, l, headers-many s ch lost c.input, record_count_lem c.input) in
        ap (λ (t : List ℕ). row head_bytes t k) (wrote c).2 ∙ record_of_lem head_bytes (hs c) _ (headers-wide s ch lost c.input) k lk
        ∙ ap (λ (t : List (List ℕ)). get_or t k []) (right s ch lost c.input h two).headed ∙ tab-at (strip_count s c.input) _ k [] l

    pub part_at : row (part_bytes n) c.repaired k ≡ (reply_to (piece_at (strip_bytes n) c.input k)).bytes
    part_at =
        let lk : k < length (ps c) = omega (arith, l, parts-many s ch lost c.input, part-count c.input) in
        ap (λ (t : List ℕ). row (part_bytes n) t k) (wrote c).1 ∙ record_of_lem (part_bytes n) (ps c) _ (parts-wide s ch lost c.input) k lk
        ∙ ap (λ (t : List (List ℕ)). get_or t k []) (right s ch lost c.input h two).parted ∙ tab-at (strip_count s c.input) _ k [] l

    -- repairing answers a and leaves its output untouched
    pub untouched : (a : Answer) → repairing n s (get_or ch 0 0) (get_or ch 1 0) (piece_at (strip_bytes n) c.input k) lost (replicate (part_bytes n) 255) ≡ leaving (replicate (part_bytes n) 255) a
        → (row head_bytes c.records k ≡ header a) × (row (part_bytes n) c.repaired k ≡ replicate (part_bytes n) 255)
    unfolding strip_reply
    untouched a e = (record_at_lem ∙ ap (λ (t : Reply). header t.answer) e, part_at ∙ ap (λ (t : Reply). t.bytes) e)

  -- two inputs with the same strip k have the same record and the same part there
  pub strip_alone : (c d : Call s ch lost) (k : ℕ) → k < strip_count s c.input → k < strip_count s d.input → piece_at (strip_bytes n) c.input k ≡ piece_at (strip_bytes n) d.input k
      → (row head_bytes c.records k ≡ row head_bytes d.records k) × (row (part_bytes n) c.repaired k ≡ row (part_bytes n) d.repaired k)
  strip_alone c d k l m e =
      (record_at_lem c k l ∙ ap (λ (w : List ℕ). header (reply_to w).answer) e ∙ sym (record_at_lem d k m), part_at c k l ∙ ap (λ (w : List ℕ). (reply_to w).bytes) e ∙ sym (part_at d k m))

  -- the bytes of the records and of the parts of an input in parts, all but the last of whole strips
  pub cut_headers : (ins : List (List ℕ)) (last : List ℕ) → WholePieces (strip_bytes n) ins
      → flatten (headers s ch lost (flatten ins ++ last)) ≡ flatten (map (λ (i : List ℕ). flatten (headers s ch lost i)) ins) ++ flatten (headers s ch lost last)
  cut_headers = cut_flat (strip_bytes n) (strip-pos n) (λ (w : List ℕ). header (reply_to w).answer) (headers s ch lost) (λ i. (right s ch lost i h two).headed)

  pub cut_parts : (ins : List (List ℕ)) (last : List ℕ) → WholePieces (strip_bytes n) ins
      → flatten (parts s ch lost (flatten ins ++ last)) ≡ flatten (map (λ (i : List ℕ). flatten (parts s ch lost i)) ins) ++ flatten (parts s ch lost last)
  cut_parts = cut_flat (strip_bytes n) (strip-pos n) (λ (w : List ℕ). (reply_to w).bytes) (parts s ch lost) (λ i. (right s ch lost i h two).parted)

  -- what a list of calls left, by what each left
  all_left : (left : Call s ch lost → List ℕ) (g : List ℕ → List (List ℕ)) → ((c : Call s ch lost) → left c ≡ flatten (g c.input))
      → (calls : List (Call s ch lost)) → flatten (map (λ (i : List ℕ). flatten (g i)) (map (λ (c : Call s ch lost). c.input) calls)) ≡ flatten (map left calls)
  unfolding flatten
  all_left left g e [] = refl
  all_left left g e (c ∷ calls) = ap₂ {C = List ℕ} ◌++◌ (sym (e c)) (all_left left g e calls)

  -- runs of whole strips and then the rest, a call for each: what the calls leave, one after the other, is what one call on the whole input leaves
  pub cut_all : (calls : List (Call s ch lost)) (last whole : Call s ch lost) → WholePieces (strip_bytes n) (map (λ (c : Call s ch lost). c.input) calls)
      → whole.input ≡ flatten (map (λ (c : Call s ch lost). c.input) calls) ++ last.input
      → (records_left whole ≡ flatten (map records_left calls) ++ records_left last) × (parts_left whole ≡ flatten (map parts_left calls) ++ parts_left last)
  cut_all calls last whole w e =
      let ins : List (List ℕ) = map (λ (c : Call s ch lost). c.input) calls in (
        records-left whole ∙ ap (λ (i : List ℕ). flatten (headers s ch lost i)) e ∙ cut_headers ins last.input w
            ∙ ap₂ {C = List ℕ} ◌++◌ (all_left records_left (headers s ch lost) records-left calls) (sym (records-left last)),
        parts-left whole ∙ ap (λ (i : List ℕ). flatten (parts s ch lost i)) e ∙ cut_parts ins last.input w
            ∙ ap₂ {C = List ℕ} ◌++◌ (all_left parts_left (parts s ch lost) parts-left calls) (sym (parts-left last)),
      )
