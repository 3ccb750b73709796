-- What follows from the promise of `answer`: of any answer a, and bytes x of the output after the call.
--     stream_determined               any two results that the promise allows are equal
--     short_untouched, room-done, room-written     16 exactly where the output is too short, and then nothing is touched; else the records are
--                                     written, and later bytes stay
--     record_count_lem                    as many records as input bytes divided by N, rounded up
--     record_at_lem                       record k, at its byte, is the answer to word k
--     word_alone                      record k depends on word k alone
--     record_read                     the numbers and strips of record k are what decoding word k answers and leaves in a buffer of 3N bytes
--     record_said                     what 01 says of decoding, of record k
--     record_more_read                word k with some erased symbols filled in: never less is known, by the two records
--     record_lowered, record_raised   with another ceiling record k is the same in every byte, or that of 18
--     cut_in_two                      an input cut at a multiple of N: the parts, answered one after the other, give the same bytes
--     cut_records, cut_bytes          the records of any number of parts, all but the last of whole words, are those of the whole input
--     cut_all                         and so are the bytes that a call for each part leaves: what `recover` writes, by runs of whole words and then
--                                     the rest, are the bytes of one call on the whole input
use mathlib.Core.Path.{◌≡◌, refl, sym, ap, ap₂, ◌∙◌}
use mathlib.Core.Logic.{◌⊎◌, inl, inr, ⊎_elim}
use Prim.Native.Nat.{ℕ, ◌*◌, ◌^◌, ◌≤◌, ◌<◌}
use native.Mathlib.Omega.{arith}
use mathlib.Core.Bool.{Bool, true, false, true≢false}
use mathlib.Core.List.{List, [], ◌∷◌, ◌++◌, map, flatten}
use lib.ListN.{length, take, drop, get_or, replicate}
use lib.Dec.{ltb}
use borrow.Author.Tests.{lt-ltb, le-ltb}
use lib.Pow.{pow_pos}
use lib.Seq.{take_at}
use Rattle.bits.specs.Vectors.{pick}
use Rattle.bits.specs.Rows.{row}
use Rattle.bits.proofs.Tests.{length-tab, tab-at}
use Rattle.bits.proofs.RowLaws.{length-flatten}
use Rattle.bits.proofs.Records.{flatten_append, record_of_lem}
use Rattle.meaning.specs.Limits.{largest_n, largest_ceiling}
use Rattle.meaning.specs.Sheet.{rules}
use Rattle.meaning.specs.Open.{unknowns}
use Rattle.meaning.specs.Answers.{numbers_of, Reply, is_done, reply, leaving, writing, decoding}
use Rattle.meaning.specs.Stream.{header, answer_bytes, padded, answer_record, refused_record, n_of, rounded_up, word_at, records, streaming}
use Rattle.meaning.specs.declared.Answer.{Answer}
use Rattle.meaning.specs.declared.Answer.TheVariants.{Done, ShortOutput, TooMany}
use Rattle.meaning.specs.Said.{Said}
use Rattle.meaning.proofs.Determined.{reply_determined}
use Rattle.meaning.proofs.Saying.{said}
use Rattle.meaning.proofs.Cutting.{WholePieces, pieces_cut, cut_list, cut_flat}
use Rattle.planning.specs.Filled.{filled_in}
use Rattle.planning.specs.MoreKnown.{code_of, formed, MoreKnown}
use Rattle.planning.proofs.Known.{more_known}
use Rattle.planning.proofs.Ceiling.{lowered, raised}
use Rattle.stream.specs.ReadOff.{numbers_in, strips_in}
use Rattle.stream.proofs.ReadOff.{numbers_off, strips_off}
use Rattle.stream.proofs.Untouched.{untouched_record}
use Rattle.stream.proofs.Counting.{records-words}
use Rattle.stream.proofs.Streaming.{record_at, records-wide}

pub stream_determined : (s ch input out x x' : List ℕ) (a a' : Answer) → reply x a ≡ streaming s ch input out → reply x' a' ≡ streaming s ch input out → (a ≡ a') × (x ≡ x')
stream_determined s ch input out x x' a a' p q = reply_determined a a' x x' (streaming s ch input out) p q

positive : (n : ℕ) → 0 < 2 ^ n
positive n = omega (arith, pow_pos n)

-- ---- the records of an input whose sheet and choice have a right length

module _ (s ch : List ℕ) (h : n_of s ≤ largest_n) (two : length ch ≡ 2) where
  abbrev n : ℕ
  n = n_of s

  -- the answer to a word
  abbrev pub answer_to : List ℕ → List ℕ
  answer_to w = answer_record n s (get_or ch 0 0) (get_or ch 1 0) w

  pub record_count_lem : (input : List ℕ) → length (records s ch input) ≡ rounded_up (length input) (2 ^ n)
  record_count_lem input = ap length (records-words s ch input h two) ∙ length-tab (rounded_up (length input) (2 ^ n)) (record_at n s (get_or ch 0 0) (get_or ch 1 0) input)

  -- two parts, the first of whole words
  pub records_cut : (a b : List ℕ) (m : ℕ) → length a ≡ m * 2 ^ n → records s ch (a ++ b) ≡ records s ch a ++ records s ch b
  records_cut a b m la =
      records-words s ch (a ++ b) h two ∙ pieces_cut (2 ^ n) (positive n) a b m la answer_to
      ∙ ap₂ {C = List (List ℕ)} ◌++◌ (sym (records-words s ch a h two)) (sym (records-words s ch b h two))

  -- ---- any result that is done

  -- the bytes of the records, and later bytes as found
  pub written : (input out x : List ℕ) → reply x Done ≡ streaming s ch input out → x ≡ flatten (records s ch input) ++ drop (length (flatten (records s ch input))) out
  unfolding streaming
  written input out x p = go (ltb (length out) (length (records s ch input) * answer_bytes)) p
    where
      go : (b : Bool) → reply x Done ≡ pick b (leaving out ShortOutput) (writing (flatten (records s ch input)) out Done) → x ≡ flatten (records s ch input) ++ drop (length (flatten (records s ch input))) out
      go true q = absurd (true≢false (ap (λ (t : Reply). is_done t.answer) q))
      go false q = ap (λ (t : Reply). t.bytes) q

  pub record_at_lem : (input out x : List ℕ) → reply x Done ≡ streaming s ch input out → (k : ℕ) → k < rounded_up (length input) (2 ^ n) → row answer_bytes x k ≡ answer_to (word_at n input k)
  record_at_lem input out x p k l =
      let lk : k < length (records s ch input) = omega (arith, l, record_count_lem input) in
      ap (λ (t : List ℕ). row answer_bytes t k) (written input out x p) ∙ record_of_lem answer_bytes (records s ch input) _ (records-wide s ch input) k lk
      ∙ ap (λ (t : List (List ℕ)). get_or t k []) (records-words s ch input h two) ∙ tab-at (rounded_up (length input) (2 ^ n)) (record_at n s (get_or ch 0 0) (get_or ch 1 0) input) k [] l

  -- two inputs with the same word k have the same record there
  pub word_alone : (input out x input' out' x' : List ℕ) → reply x Done ≡ streaming s ch input out → reply x' Done ≡ streaming s ch input' out'
      → (k : ℕ) → k < rounded_up (length input) (2 ^ n) → k < rounded_up (length input') (2 ^ n) → word_at n input k ≡ word_at n input' k → row answer_bytes x k ≡ row answer_bytes x' k
  word_alone input out x input' out' x' p p' k l l' e = record_at_lem input out x p k l ∙ ap answer_to e ∙ sym (record_at_lem input' out' x' p' k l')

  -- ---- record k, read back

  -- what decoding a word answers, and leaves in a buffer of 3N bytes
  abbrev pub decoded_to : List ℕ → Reply
  decoded_to w = decoding n s (get_or ch 0 0) (get_or ch 1 0) w (replicate (3 * 2 ^ n) 255)

  pub record_read : (input out x : List ℕ) → reply x Done ≡ streaming s ch input out → (k : ℕ) → k < rounded_up (length input) (2 ^ n)
      → (numbers_in (row answer_bytes x k) ≡ numbers_of (decoded_to (word_at n input k)).answer) × (strips_in n (row answer_bytes x k) ≡ (decoded_to (word_at n input k)).bytes)
  record_read input out x p k l =
      let e = record_at_lem input out x p k l in
      let w : List ℕ = word_at n input k in
      (ap numbers_in e ∙ numbers_off n s (get_or ch 0 0) (get_or ch 1 0) w h, ap (strips_in n) e ∙ strips_off n s (get_or ch 0 0) (get_or ch 1 0) w h)

  -- what 01 says, sentence by sentence, of record k and the strips' 255
  pub record_said : (input out x : List ℕ) → reply x Done ≡ streaming s ch input out → (k : ℕ) → k < rounded_up (length input) (2 ^ n)
      → Said n s (get_or ch 0 0) (get_or ch 1 0) (word_at n input k) (replicate (3 * 2 ^ n) 255) (numbers_in (row answer_bytes x k)) (strips_in n (row answer_bytes x k))
  record_said input out x p k l =
      let (v, b) = record_read input out x p k l in
      rw (v, b) (said n s (get_or ch 0 0) (get_or ch 1 0) (word_at n input k) (replicate (3 * 2 ^ n) 255))

  -- word k with more read; neither record is a refusal for any reason but 18
  pub record_more_read : (input out x input' out' x' : List ℕ) → reply x Done ≡ streaming s ch input out → reply x' Done ≡ streaming s ch input' out'
      → (k : ℕ) → k < rounded_up (length input) (2 ^ n) → k < rounded_up (length input') (2 ^ n) → filled_in (word_at n input k) (word_at n input' k) ≡ true
      → formed (numbers_in (row answer_bytes x k)) ≡ true → formed (numbers_in (row answer_bytes x' k)) ≡ true
      → MoreKnown n (word_at n input k) (word_at n input' k) (numbers_in (row answer_bytes x k)) (strips_in n (row answer_bytes x k)) (numbers_in (row answer_bytes x' k)) (strips_in n (row answer_bytes x' k))
  record_more_read input out x input' out' x' p p' k l l' f ok ok' =
      let (v, b) = record_read input out x p k l in
      let (v', b') = record_read input' out' x' p' k l' in
      rw (v, b, v', b') (more_known n s (get_or ch 0 0) (get_or ch 1 0) (word_at n input k) (word_at n input' k) f (replicate (3 * 2 ^ n) 255) (replicate (3 * 2 ^ n) 255) (rw v at ok) (rw v' at ok'))

  -- the bytes of the records of an input
  abbrev pub record_bytes_of : List ℕ → List ℕ → List ℕ
  record_bytes_of input x = take (rounded_up (length input) (2 ^ n) * answer_bytes) x

  records-bytes : (input out x : List ℕ) → reply x Done ≡ streaming s ch input out → record_bytes_of input x ≡ flatten (records s ch input)
  records-bytes input out x p =
      let l : length (flatten (records s ch input)) ≡ rounded_up (length input) (2 ^ n) * answer_bytes = length-flatten answer_bytes (records s ch input) (records-wide s ch input) ∙ ap (λ (k : ℕ). k * answer_bytes) (record_count_lem input) in
      ap (record_bytes_of input) (written input out x p) ∙ take_at (flatten (records s ch input)) _ _ l

  -- an input cut behind m whole words: the parts, answered one after the other, give the same bytes
  pub cut_in_two : (a b : List ℕ) (m : ℕ) → length a ≡ m * 2 ^ n → (out x outa xa outb xb : List ℕ)
      → reply x Done ≡ streaming s ch (a ++ b) out → reply xa Done ≡ streaming s ch a outa → reply xb Done ≡ streaming s ch b outb
      → record_bytes_of (a ++ b) x ≡ record_bytes_of a xa ++ record_bytes_of b xb
  cut_in_two a b m la out x outa xa outb xb p pa pb =
      records-bytes (a ++ b) out x p ∙ ap flatten (records_cut a b m la) ∙ flatten_append (records s ch a) (records s ch b)
      ∙ ap₂ {C = List ℕ} ◌++◌ (sym (records-bytes a outa xa pa)) (sym (records-bytes b outb xb pb))

-- ---- two choices with the same r, the ceiling of the second no lower

module _ (s ch ch' : List ℕ) (h : n_of s ≤ largest_n) (two : length ch ≡ 2) (two' : length ch' ≡ 2)
    (same : get_or ch 0 0 ≡ get_or ch' 0 0) (up : get_or ch 1 0 ≤ get_or ch' 1 0) (limit : get_or ch' 1 0 ≤ largest_ceiling)
    (input out x out' x' : List ℕ) (p : reply x Done ≡ streaming s ch input out) (p' : reply x' Done ≡ streaming s ch' input out') (k : ℕ) (l : k < rounded_up (length input) (2 ^ n_of s)) where
  abbrev size : ℕ
  size = n_of s

  abbrev word : List ℕ
  word = word_at size input k

  -- the unknowns of word k
  abbrev g : ℕ
  g = unknowns size (rules size s) word

  -- the record that a reply is laid into
  abbrev laid_out : Reply → List ℕ
  laid_out t = header t.answer ++ padded (take (2 ^ size) t.bytes) ++ padded (take (2 ^ size) (drop (2 ^ size) t.bytes)) ++ padded (drop (2 * 2 ^ size) t.bytes)

  abbrev decoded_under : ℕ → Reply
  decoded_under c = decoding size s (get_or ch 0 0) c word (replicate (3 * 2 ^ size) 255)

  same-records : decoded_under (get_or ch 1 0) ≡ decoded_under (get_or ch' 1 0) → row answer_bytes x k ≡ row answer_bytes x' k
  unfolding answer_record
  same-records q =
      record_at_lem s ch h two input out x p k l ∙ ap laid_out q ∙ ap (λ (r : ℕ). answer_record size s r (get_or ch' 1 0) word) same ∙ sym (record_at_lem s ch' h two' input out' x' p' k l)

  pub record_lowered : (row answer_bytes x k ≡ row answer_bytes x' k) ⊎ ((row answer_bytes x k ≡ refused_record (TooMany g)) × (get_or ch 1 0 < g))
  record_lowered =
      ⊎_elim (λ q. inl (same-records q))
      (λ (q, c). inr (record_at_lem s ch h two input out x p k l ∙ untouched_record size s (get_or ch 0 0) (get_or ch 1 0) word (TooMany g) h q, c))
      (lowered size s (get_or ch 0 0) (get_or ch 1 0) (get_or ch' 1 0) word (replicate (3 * 2 ^ size) 255) up limit)

  pub record_raised : (code_of (numbers_in (row answer_bytes x k)) ≡ 18 → ⊥) → row answer_bytes x' k ≡ row answer_bytes x k
  record_raised c =
      sym (same-records (sym (raised size s (get_or ch 0 0) (get_or ch 1 0) (get_or ch' 1 0) word (replicate (3 * 2 ^ size) 255) up limit (λ q. c (ap code_of (record_read s ch h two input out x p k l).0 ∙ q)))))

-- ---- a result that is not done

-- too short an output is refused, and nothing is touched
pub short_untouched : (s ch input out x : List ℕ) (a : Answer) → reply x a ≡ streaming s ch input out → length out < length (records s ch input) * answer_bytes → (a ≡ ShortOutput) × (x ≡ out)
unfolding streaming
short_untouched s ch input out x a p l =
    let q : reply x a ≡ leaving out ShortOutput = p ∙ rw (lt-ltb (length out) (length (records s ch input) * answer_bytes) l) in
    (ap (λ (t : Reply). t.answer) q, ap (λ (t : Reply). t.bytes) q)

-- and else it is done
pub room-done : (s ch input out x : List ℕ) (a : Answer) → reply x a ≡ streaming s ch input out → length (records s ch input) * answer_bytes ≤ length out → a ≡ Done
unfolding streaming
room-done s ch input out x a p l = ap (λ (t : Reply). t.answer) p ∙ rw (le-ltb (length out) (length (records s ch input) * answer_bytes) l)

-- the bytes of the records, and later bytes as found
pub room-written : (s ch input out x : List ℕ) (a : Answer) → reply x a ≡ streaming s ch input out → length (records s ch input) * answer_bytes ≤ length out
    → x ≡ flatten (records s ch input) ++ drop (length (flatten (records s ch input))) out
unfolding streaming
room-written s ch input out x a p l = ap (λ (t : Reply). t.bytes) p ∙ rw (le-ltb (length out) (length (records s ch input) * answer_bytes) l)

-- ---- any number of parts

-- each part is a whole number of words of N bytes
abbrev pub WholeWords : ℕ → List (List ℕ) → Type 0
WholeWords = WholePieces

-- a call of `answer` that had room for the records: what it was handed, its answer, and its output as found and after the call
pub record Call (s ch : List ℕ) : Type 0 where
  pub input : List ℕ
  pub found : List ℕ
  pub after : List ℕ
  pub answer : Answer
  pub roomy : length (records s ch input) * answer_bytes ≤ length found
  pub promise : reply after answer ≡ streaming s ch input found

-- the bytes of the records that it left
abbrev pub left : {s ch : List ℕ} → Call s ch → List ℕ
left {s} {ch} c = take (length (records s ch c.input) * answer_bytes) c.after

module _ (s ch : List ℕ) (h : n_of s ≤ largest_n) (two : length ch ≡ 2) where
  -- the records of the parts, one after the other
  pub cut_records : (parts : List (List ℕ)) (last : List ℕ) → WholeWords (2 ^ n_of s) parts
      → records s ch (flatten parts ++ last) ≡ flatten (map (records s ch) parts) ++ records s ch last
  cut_records = cut_list (2 ^ n_of s) (positive (n_of s)) (answer_to s ch h two) (records s ch) (λ i. records-words s ch i h two)

  -- their bytes
  pub cut_bytes : (parts : List (List ℕ)) (last : List ℕ) → WholeWords (2 ^ n_of s) parts
      → flatten (records s ch (flatten parts ++ last)) ≡ flatten (map (λ (a : List ℕ). flatten (records s ch a)) parts) ++ flatten (records s ch last)
  cut_bytes = cut_flat (2 ^ n_of s) (positive (n_of s)) (answer_to s ch h two) (records s ch) (λ i. records-words s ch i h two)

  -- what a call leaves
  left-bytes : (c : Call s ch) → left c ≡ flatten (records s ch c.input)
  left-bytes c =
      let R : List (List ℕ) = records s ch c.input in
      ap (take (length R * answer_bytes)) (room-written s ch c.input c.found c.after c.answer c.promise c.roomy) ∙ take_at (flatten R) _ _ (length-flatten answer_bytes R (records-wide s ch c.input))

  all_left : (calls : List (Call s ch)) → flatten (map (λ (a : List ℕ). flatten (records s ch a)) (map (λ (c : Call s ch). c.input) calls)) ≡ flatten (map left calls)
  unfolding flatten
  all_left [] = refl
  all_left (c ∷ calls) = ap₂ {C = List ℕ} ◌++◌ (sym (left-bytes c)) (all_left calls)

  -- runs of whole words and then the rest, a call for each: what the calls leave, one after the other, is what one call on the whole input leaves
  pub cut_all : (parts : List (Call s ch)) (last whole : Call s ch) → WholeWords (2 ^ n_of s) (map (λ (c : Call s ch). c.input) parts)
      → whole.input ≡ flatten (map (λ (c : Call s ch). c.input) parts) ++ last.input
      → left whole ≡ flatten (map left parts) ++ left last
  cut_all parts last whole w e =
      left-bytes whole ∙ ap (λ (i : List ℕ). flatten (records s ch i)) e ∙ cut_bytes (map (λ (c : Call s ch). c.input) parts) last.input w
      ∙ ap₂ {C = List ℕ} ◌++◌ (all_left parts) (sym (left-bytes last))
