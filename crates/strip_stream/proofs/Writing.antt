-- What the functions leave in the two buffers.
--     put_whole, replied               the record of an answer, and the reply to one strip
--     headers-bytes, parts-bytes       how many bytes the records and parts have
--     alone_records, alone_repaired    one record, and no part
--     each_records, each_repaired      a record and a part for each strip
--     short_is, records_short, records_fit_lem     the tests for room
--     short_records, short_repaired            what the call answers where there is too little
--     answered                         what the call answers
use mathlib.Core.Path.{◌≡◌, refl, sym, ap, ap₂, ◌∙◌}
use Prim.Native.Nat.{ℕ, ◌*◌, ◌/◌, ◌≤◌, ◌<◌}
use native.Mathlib.Omega.{arith}
use native.Mathlib.Nat.{div-lt_iff_lt-mul, le-div_iff_mul-le, zero-mul}
use mathlib.Core.Bool.{Bool, true, false}
use mathlib.Core.List.{List, ◌++◌, flatten, append-nil}
use lib.ListN.{length, drop, get_or, replicate, drop_of_length-le}
use lib.Dec.{ltb}
use borrow.Author.Tests.{lt-ltb, le-ltb, ltb-true, ltb-false}
use Rattle.bits.specs.Vectors.{tab}
use Rattle.bits.proofs.RowLaws.{length-flatten}
use Rattle.bits.proofs.Records.{flatten_one}
use Rattle.meaning.specs.Limits.{head_bytes}
use Rattle.meaning.specs.Answers.{Reply, reply}
use Rattle.meaning.specs.Stream.{header, n_of, rounded_up, piece_at}
use Rattle.meaning.specs.declared.Answer.{Answer}
use Rattle.meaning.specs.declared.Answer.TheVariants.{Done, ShortOutput}
use Rattle.strips.specs.Repairing.{repairing}
use Rattle.strip_stream.specs.Strips.{strip_bytes, part_bytes, strip_reply, record_count, part_count, headers, parts, leaving_both, answering_strips}
use Rattle.strip_stream.proofs.Cases.{Alone, Right, headers-wide, parts-wide, headers-many, parts-many}

-- ---- one strip

-- all of a list that is as long as a header
pub put_whole : (a : Answer) (head x : List ℕ) → length head ≡ head_bytes → x ≡ header a ++ drop head_bytes head → x ≡ header a
put_whole a head x l e =
    let h : length head ≤ head_bytes = omega arith in
    e ∙ ap (λ (t : List ℕ). header a ++ t) (drop_of_length-le head h) ∙ append-nil (header a)

pub replied : (n : ℕ) (s : List ℕ) (r c : ℕ) (lost strip part blank x : List ℕ) (a : Answer) → length part ≡ part_bytes n → blank ≡ replicate (length part) 255
    → reply x a ≡ repairing n s r c strip lost blank → reply x a ≡ strip_reply n s r c lost strip
unfolding strip_reply
replied n s r c lost strip part blank x a l e p = p ∙ ap (repairing n s r c strip lost) (e ∙ ap (λ (k : ℕ). replicate k 255) l)

-- ---- how many bytes

module _ (s ch lost input : List ℕ) where
  pub headers-bytes : length (flatten (headers s ch lost input)) ≡ record_count s ch input * head_bytes
  headers-bytes = length-flatten head_bytes (headers s ch lost input) (headers-wide s ch lost input) ∙ ap (λ (k : ℕ). k * head_bytes) (headers-many s ch lost input)

  pub parts-bytes : length (flatten (parts s ch lost input)) ≡ part_count s ch input * part_bytes (n_of s)
  parts-bytes = length-flatten (part_bytes (n_of s)) (parts s ch lost input) (parts-wide s ch lost input) ∙ ap (λ (k : ℕ). k * part_bytes (n_of s)) (parts-many s ch lost input)

-- ---- one record alone

module _ {s ch lost input : List ℕ} {a : Answer} (p : Alone s ch lost input a) where
  pub alone_room : (l : ℕ) → record_count s ch input * head_bytes ≤ l → head_bytes ≤ l
  alone_room l h = let e : record_count s ch input * head_bytes ≡ 1 * head_bytes = ap (λ (k : ℕ). k * head_bytes) p.one in omega (arith, e)

  pub alone_records : (records x : List ℕ) → x ≡ header a ++ drop head_bytes records → x ≡ flatten (headers s ch lost input) ++ drop (record_count s ch input * head_bytes) records
  alone_records records x e =
      let j : head_bytes ≡ record_count s ch input * head_bytes = (let q : head_bytes ≡ 1 * head_bytes = omega arith in q) ∙ ap (λ (k : ℕ). k * head_bytes) (sym p.one) in
      e ∙ ap₂ {C = List ℕ} (λ t i. t ++ drop i records) (sym (ap flatten p.headed ∙ flatten_one (header a))) j

  pub alone_repaired : (repaired : List ℕ) → repaired ≡ flatten (parts s ch lost input) ++ drop (part_count s ch input * part_bytes (n_of s)) repaired
  unfolding flatten
  alone_repaired repaired = sym (ap₂ {C = List ℕ} (λ t k. flatten t ++ drop (k * part_bytes (n_of s)) repaired) p.parted p.none ∙ ap (λ (k : ℕ). drop k repaired) (zero-mul (part_bytes (n_of s))))

-- ---- a record and a part for each strip, for the n that the code finds

module _ {s ch lost input : List ℕ} (p : Right s ch lost input) (n k : ℕ) (en : n ≡ n_of s) (ek : k ≡ rounded_up (length input) (strip_bytes n)) where
  abbrev reply_to : ℕ → ℕ → Reply
  reply_to m i = strip_reply m s (get_or ch 0 0) (get_or ch 1 0) lost (piece_at (strip_bytes m) input i)

  counted : k ≡ rounded_up (length input) (strip_bytes (n_of s))
  counted = ek ∙ ap (λ (m : ℕ). rounded_up (length input) (strip_bytes m)) en

  pub each_room : (l m : ℕ) → record_count s ch input * head_bytes ≤ l → part_count s ch input * part_bytes (n_of s) ≤ m → (k * part_bytes n ≤ m) × (k * head_bytes ≤ l)
  each_room l m h q = (rw (en, counted, ← p.each) q, rw (counted, ← p.many) h)

  pub each_records : (records x : List ℕ) → x ≡ flatten (tab k (λ (i : ℕ). header (reply_to n i).answer)) ++ drop (k * head_bytes) records
      → x ≡ flatten (headers s ch lost input) ++ drop (record_count s ch input * head_bytes) records
  each_records records x e =
      e ∙ ap (λ (m : ℕ). flatten (tab k (λ (i : ℕ). header (reply_to m i).answer)) ++ drop (k * head_bytes) records) en
      ∙ ap (λ (j : ℕ). flatten (tab j (λ (i : ℕ). header (reply_to (n_of s) i).answer)) ++ drop (j * head_bytes) records) counted
      ∙ sym (ap₂ {C = List ℕ} (λ t j. flatten t ++ drop (j * head_bytes) records) p.headed p.many)

  pub each_repaired : (repaired x : List ℕ) → x ≡ flatten (tab k (λ (i : ℕ). (reply_to n i).bytes)) ++ drop (k * part_bytes n) repaired
      → x ≡ flatten (parts s ch lost input) ++ drop (part_count s ch input * part_bytes (n_of s)) repaired
  each_repaired repaired x e =
      e ∙ ap (λ (m : ℕ). flatten (tab k (λ (i : ℕ). (reply_to m i).bytes)) ++ drop (k * part_bytes m) repaired) en
      ∙ ap (λ (j : ℕ). flatten (tab j (λ (i : ℕ). (reply_to (n_of s) i).bytes)) ++ drop (j * part_bytes (n_of s)) repaired) counted
      ∙ sym (ap₂ {C = List ℕ} (λ t j. flatten t ++ drop (j * part_bytes (n_of s)) repaired) p.parted p.each)

-- ---- the call

head_pos : 0 < head_bytes
unfolding head_bytes
head_pos = omega arith

-- room for k of A bytes, as the code tests it
pub short_is : (l A k : ℕ) → 0 < A → ltb (l / A) k ≡ ltb l (k * A)
short_is l A k p = go (ltb (l / A) k) refl
  where
    go : (b : Bool) → ltb (l / A) k ≡ b → b ≡ ltb l (k * A)
    go true e = sym (lt-ltb l (k * A) ((div-lt_iff_lt-mul p).0 (ltb-true (l / A) k e)))
    go false e = sym (le-ltb l (k * A) ((le-div_iff_mul-le p).0 (ltb-false (l / A) k e)))

-- the test for the records, k of them
module _ (s ch input : List ℕ) (l k : ℕ) (ek : k ≡ record_count s ch input) where
  tested : (b : Bool) → ltb (l / head_bytes) k ≡ b → ltb l (record_count s ch input * head_bytes) ≡ b
  tested b e = ap (λ (j : ℕ). ltb l (j * head_bytes)) (sym ek) ∙ sym (short_is l head_bytes k head_pos) ∙ e

  pub records_short : l / head_bytes < k → ltb l (record_count s ch input * head_bytes) ≡ true
  records_short h = tested true (lt-ltb (l / head_bytes) k h)

  pub records_fit_lem : k ≤ l / head_bytes → ltb l (record_count s ch input * head_bytes) ≡ false
  records_fit_lem h = tested false (le-ltb (l / head_bytes) k h)

module _ (s ch lost input repaired records : List ℕ) where
  pub short_records : ltb (length records) (record_count s ch input * head_bytes) ≡ true → leaving_both repaired records ShortOutput ≡ answering_strips s ch lost input repaired records
  unfolding answering_strips
  short_records h = rw h

  module _ (h : ltb (length records) (record_count s ch input * head_bytes) ≡ false) where
    pub short_repaired : ltb (length repaired) (part_count s ch input * part_bytes (n_of s)) ≡ true → leaving_both repaired records ShortOutput ≡ answering_strips s ch lost input repaired records
    unfolding answering_strips
    short_repaired q = rw (h, q)

    pub answered : ltb (length repaired) (part_count s ch input * part_bytes (n_of s)) ≡ false → (x y : List ℕ)
        → x ≡ flatten (parts s ch lost input) ++ drop (part_count s ch input * part_bytes (n_of s)) repaired → y ≡ flatten (headers s ch lost input) ++ drop (record_count s ch input * head_bytes) records
        → leaving_both x y Done ≡ answering_strips s ch lost input repaired records
    unfolding answering_strips
    answered q x y ex ey =
        rw (h, q)
        (ap₂ (λ (t u : List ℕ). leaving_both t u Done)
        (ex ∙ ap (λ (j : ℕ). flatten (parts s ch lost input) ++ drop j repaired) (sym (parts-bytes s ch lost input)))
        (ey ∙ ap (λ (j : ℕ). flatten (headers s ch lost input) ++ drop j records) (sym (headers-bytes s ch lost input))))
