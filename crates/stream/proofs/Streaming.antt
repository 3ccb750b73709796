-- The records one after the other.
--     record_long, records-wide     each record has its bytes
--     short, room       the test for room
--     streamed          what the call answers
--     alone, words-all     the records, by what the sheet and the choice set
use mathlib.Core.Path.{◌≡◌, refl, sym, ap, ap₂, ◌∙◌}
use mathlib.Core.Logic.{◌⊎◌, inl, inr}
use Prim.Native.Nat.{ℕ, ◌+◌, ◌*◌, ◌/◌, ◌^◌, ◌≤◌, ◌<◌}
use native.Mathlib.Omega.{arith}
use native.Mathlib.Nat.{div-lt_iff_lt-mul, le-div_iff_mul-le}
use mathlib.Core.List.{List, ◌++◌, flatten}
use lib.ListN.{length, drop, get_or, replicate, length-append, length-replicate}
use borrow.Author.Tests.{lt-ltb, le-ltb}
use Rattle.bits.specs.Vectors.{tab}
use Rattle.bits.specs.Rows.{Wide}
use Rattle.bits.proofs.Tests.{le_or_lt, eq_or_ne}
use Rattle.bits.proofs.RowLaws.{length-flatten}
use Rattle.bits.proofs.Records.{flatten_one, wide-tab}
use Rattle.meaning.specs.Limits.{largest_n, strip_width}
use Rattle.meaning.specs.Answers.{Reply, leaving, decoding}
use Rattle.meaning.specs.Stream.{header, answer_bytes, answer_record, refused_record, n_of, rounded_up, word_at, records, streaming}
use Rattle.meaning.specs.declared.Answer.{Answer}
use Rattle.meaning.specs.declared.Answer.TheVariants.{Done, BadShape, BadCheck, ShortOutput}
use Rattle.meaning.proofs.Heading.{header-long}
use Rattle.stream.specs.Laying.{laid}
use Rattle.stream.proofs.Fitting.{keeps-length}
use Rattle.stream.proofs.Laying.{laid-long, recorded, word_fits}
use Rattle.std.specs.Prelude.{Err}
use Rattle.meaning.specs.declared.Refused.{Refused}
use Rattle.meaning.specs.Results.{refusal}
use Rattle.stream.specs.declared.Terms.{Terms}
use Rattle.stream.specs.Agreement.{agreement}
use Rattle.stream.proofs.Agreeing.{Agreed, refused_alone, one_refused, counted_terms}
use Rattle.stream.proofs.Counting.{records_shape, records_choice, records-words}

-- the record of word i
abbrev pub record_at : ℕ → List ℕ → ℕ → ℕ → List ℕ → ℕ → List ℕ
record_at n s r c input i = answer_record n s r c (word_at n input i)

-- ---- lengths

pub record_long : (n : ℕ) (s : List ℕ) (r c : ℕ) (w : List ℕ) → n ≤ largest_n → length (answer_record n s r c w) ≡ answer_bytes
unfolding answer_bytes
record_long n s r c w h =
    let f : List ℕ = replicate (3 * 2 ^ n) 255 in
    let a : Reply = decoding n s r c w f in
    let l : length a.bytes ≡ 3 * 2 ^ n = keeps-length n s r c w f ∙ length-replicate (3 * 2 ^ n) 255 in
    ap length (sym (recorded n s r c w f a.bytes a.answer refl refl (2 ^ n) refl))
    ∙ length-append (header a.answer) (laid (2 ^ n) a.bytes) ∙ ap₂ ◌+◌ (header-long a.answer) (laid-long (2 ^ n) a.bytes l (word_fits n (2 ^ n) h refl))

pub refused_long : (a : Answer) → length (refused_record a) ≡ answer_bytes
unfolding refused_record answer_bytes
refused_long a = length-append (header a) _ ∙ ap₂ ◌+◌ (header-long a) (length-replicate {A = ℕ} (3 * strip_width) 255)

pub records-wide : (s ch input : List ℕ) → Wide answer_bytes (records s ch input)
records-wide s ch input = go (le_or_lt (n_of s) largest_n) (eq_or_ne (length ch) 2)
  where
    go : (n_of s ≤ largest_n) ⊎ (largest_n < n_of s) → (length ch ≡ 2) ⊎ (length ch ≡ 2 → ⊥) → Wide answer_bytes (records s ch input)
    go (inr h) e = rw (records_shape s ch input h) (refused_long BadShape, tt)
    go (inl h) (inr e) = rw (records_choice s ch input h e) (refused_long BadCheck, tt)
    go (inl h) (inl e) =
        rw (records-words s ch input h e) (wide-tab answer_bytes (rounded_up (length input) (2 ^ n_of s)) (record_at (n_of s) s (get_or ch 0 0) (get_or ch 1 0) input) (λ i. record_long (n_of s) s (get_or ch 0 0) (get_or ch 1 0) (word_at (n_of s) input i) h))

-- ---- the call

pub answer-pos : 0 < answer_bytes
unfolding answer_bytes
answer-pos = omega arith

module _ (s ch input out : List ℕ) (k : ℕ) (ek : k ≡ length (records s ch input)) where
  pub short : length out / answer_bytes < k → leaving out ShortOutput ≡ streaming s ch input out
  unfolding streaming
  short h =
      let l : length out < length (records s ch input) * answer_bytes = rw (← ek) ((div-lt_iff_lt-mul answer-pos).0 h) in
      rw (lt-ltb (length out) (length (records s ch input) * answer_bytes) l)

  pub room : k ≤ length out / answer_bytes → k * answer_bytes ≤ length out
  room h = (le-div_iff_mul-le answer-pos).0 h

  pub streamed : (out' : List ℕ) → k ≤ length out / answer_bytes → out' ≡ flatten (records s ch input) ++ drop (k * answer_bytes) out → leaving out' Done ≡ streaming s ch input out
  unfolding streaming
  streamed out' h e =
      let l : length (records s ch input) * answer_bytes ≤ length out = rw (← ek) (room h) in
      let m : k * answer_bytes ≡ length (flatten (records s ch input)) = ap (λ (j : ℕ). j * answer_bytes) ek ∙ sym (length-flatten answer_bytes (records s ch input) (records-wide s ch input)) in
      rw (le-ltb (length out) (length (records s ch input) * answer_bytes) l) (ap (λ (t : List ℕ). leaving t Done) (e ∙ ap (λ (j : ℕ). flatten (records s ch input) ++ drop j out) m))

-- ---- the records, as the code writes them

module _ (s ch input out : List ℕ) (k : ℕ) (ek : k ≡ length (records s ch input)) where
  module _ (e : Refused) (h : Err e ≡ agreement s ch) where
    -- one record alone, where there is room for it
    one : 1 ≡ k
    one = one_refused s ch input e h ∙ sym ek

    pub alone_room : k ≤ length out / answer_bytes → answer_bytes ≤ length out
    alone_room q = let l : k * answer_bytes ≤ length out = room s ch input out k ek q in omega (arith, ap (λ (i : ℕ). i * answer_bytes) one)

    pub alone : (x : List ℕ) → x ≡ refused_record (refusal e) → x ++ drop answer_bytes out ≡ flatten (records s ch input) ++ drop (k * answer_bytes) out
    alone x ex =
        let j : answer_bytes ≡ k * answer_bytes = (let q : answer_bytes ≡ 1 * answer_bytes = omega arith in q) ∙ ap (λ (i : ℕ). i * answer_bytes) one in
        ap₂ {C = List ℕ} (λ t i. t ++ drop i out) (ex ∙ sym (ap flatten (refused_alone s ch input e h) ∙ flatten_one (refused_record (refusal e)))) j

  module _ (t : Terms) (a : Agreed s ch t) where
    abbrev count : ℕ
    count = rounded_up (length input) (2 ^ t.n)

    same_count : count ≡ k
    same_count = counted_terms s ch input t a (2 ^ t.n) refl count refl ∙ sym ek

    pub words_room : k ≤ length out / answer_bytes → count * answer_bytes ≤ length out
    words_room h = rw same_count (room s ch input out k ek h)

    pub words-all : (x : List ℕ) → x ≡ flatten (tab count (record_at t.n s t.r t.ceiling input)) ++ drop (count * answer_bytes) out → x ≡ flatten (records s ch input) ++ drop (k * answer_bytes) out
    words-all x ex =
        let r : tab count (record_at t.n s t.r t.ceiling input) ≡ records s ch input = rw (a.r-is, a.ceiling-is, a.n-is) (sym (records-words s ch input (rw (← a.n-is) a.small) a.two)) in
        ex ∙ ap₂ {C = List ℕ} (λ (l : List (List ℕ)) (j : ℕ). flatten l ++ drop (j * answer_bytes) out) r same_count
