-- What a call leaves.
--     record_long         each record has 64 bytes
--     repair_kept         as many bytes as it found
--     reply_below         a strip's reply is made of the replies to its 512 lanes alone
use mathlib.Core.Path.{◌≡◌, refl, sym, ap, ap₂, ◌∙◌}
use Prim.Native.Nat.{ℕ, ◌+◌, ◌*◌, ◌^◌, ◌≤◌, ◌<◌}
use native.Mathlib.Omega.{arith}
use mathlib.Core.Bool.{Bool, true, false}
use mathlib.Core.List.{List, ◌++◌, flatten}
use lib.ListN.{length, drop, get_or, replicate, length-append, length-drop, length-replicate}
use lib.Dec.{eqb, ltb}
use borrow.Author.Tests.{ltb-true}
use Rattle.bits.specs.Vectors.{bit, pick, tab}
use Rattle.bits.proofs.Tests.{length-tab, tab_below}
use Rattle.bits.proofs.RowLaws.{length-flatten}
use Rattle.bits.proofs.Records.{wide-tab}
use Rattle.meaning.specs.Answers.{Reply, refuses, leaving, writing}
use Rattle.meaning.specs.declared.Answer.{Answer}
use Rattle.meaning.proofs.Refusals.{refused_untouched, first-none, none_append}
use Rattle.lanes.proofs.Collecting.{place_below}
use Rattle.lanes.proofs.Spelling.{packed_ext}
use Rattle.strips.specs.Repairing.{is_inconsistent, at_lane, open_at, byte_at, record_at, repaired, first_bad, strip_reply, repair_form, repair_refusals, lane_reply, repairing}
use Rattle.strips.proofs.Faults.{form_room}

-- new bytes at the start of a buffer that has room for them
over-long : (new out : List ℕ) → length new ≤ length out → length (new ++ drop (length new) out) ≡ length out
over-long new out h = simp (length-append, length-drop) (omega arith)

module _ (n : ℕ) (lane : ℕ → Reply) where
  pub record_long : (j : ℕ) → length (record_at n lane j) ≡ 64
  record_long j = go (open_at n lane j)
    where
      go : (b : Bool) → length (pick b (replicate 64 0) (tab 64 (byte_at n lane j))) ≡ 64
      go true = length-replicate {A = ℕ} 64 0
      go false = length-tab 64 (byte_at n lane j)

  pub repaired-long : length (repaired n lane) ≡ 65 * 2 ^ n
  repaired-long =
      let l : length (flatten (tab (2 ^ n) (record_at n lane))) ≡ 2 ^ n * 64 =
      length-flatten 64 (tab (2 ^ n) (record_at n lane)) (wide-tab 64 (2 ^ n) (record_at n lane) record_long) ∙ ap (λ (k : ℕ). k * 64) (length-tab (2 ^ n) (record_at n lane)) in
      length-append (flatten (tab (2 ^ n) (record_at n lane))) _ ∙ omega (arith, l, length-tab (2 ^ n) (λ (j : ℕ). bit (open_at n lane j)))

  reply-long : (out : List ℕ) → 65 * 2 ^ n ≤ length out → length (strip_reply n lane out).bytes ≡ length out
  unfolding strip_reply
  reply-long out h = go (ltb (first_bad n lane) 512)
    where
      go : (b : Bool) → length (pick b (leaving out (at_lane (first_bad n lane) (lane (first_bad n lane)).answer)) (writing (repaired n lane) out (lane 0).answer)).bytes ≡ length out
      go true = refl
      go false = over-long (repaired n lane) out (omega (arith, repaired-long))

pub repair_kept : (n : ℕ) (s : List ℕ) (r c : ℕ) (strip lost out : List ℕ) → length (repairing n s r c strip lost out).bytes ≡ length out
unfolding repairing repair_refusals
repair_kept n s r c strip lost out = go (refuses (repair_refusals n s r c strip lost out)) refl
  where
    go : (b : Bool) → refuses (repair_refusals n s r c strip lost out) ≡ b → length (repairing n s r c strip lost out).bytes ≡ length out
    go true e = ap length (refused_untouched out (repair_refusals n s r c strip lost out) _ e)
    go false e =
        ap (λ (a : Reply). length a.bytes) (first-none (leaving out) (repair_refusals n s r c strip lost out) _ e)
        ∙ reply-long n (lane_reply n s r c strip lost) out (form_room n s r c strip lost out (none_append (repair_form n s r c (length strip) lost (length out)) _ e).0)

-- ---- the lanes alone

module _ (n : ℕ) (f g : ℕ → Reply) (e : (t : ℕ) → t < 512 → f t ≡ g t) where
  same_open : (j : ℕ) → open_at n f j ≡ open_at n g j
  same_open j = ap (λ (a : Reply). eqb (get_or a.bytes j 0) 2) (e 0 (omega arith))

  same_record : (j : ℕ) → record_at n f j ≡ record_at n g j
  same_record j =
      ap₂ (λ (b : Bool) (l : List ℕ). pick b (replicate 64 0) l) (same_open j)
      (tab_below 64 (byte_at n f j) (byte_at n g j) (λ i h. packed_ext 8 _ _ (λ b k. ap (λ (a : Reply). get_or a.bytes j 0) (e (8 * i + b) (omega arith)))))

  pub reply_below : (out : List ℕ) → strip_reply n f out ≡ strip_reply n g out
  unfolding strip_reply
  reply_below out = ap (shape f (first_bad n f)) whole ∙ ap (λ (k : ℕ). shape f k (writing (repaired n g) out (g 0).answer)) first ∙ go (ltb (first_bad n g) 512) refl
    where
      shape : (ℕ → Reply) → ℕ → Reply → Reply
      shape h k w = pick (ltb k 512) (leaving out (at_lane k (h k).answer)) w

      first : first_bad n f ≡ first_bad n g
      first = place_below 512 (λ (i : ℕ). i) (λ (t : ℕ). is_inconsistent (f t).answer) (λ (t : ℕ). is_inconsistent (g t).answer) (λ t h. ap (λ (a : Reply). is_inconsistent a.answer) (e t h))

      whole : writing (repaired n f) out (f 0).answer ≡ writing (repaired n g) out (g 0).answer
      whole =
          ap₂ (λ (l : List ℕ) (a : Answer). writing l out a)
          (ap₂ {C = List ℕ} ◌++◌ (ap flatten (tab_below (2 ^ n) (record_at n f) (record_at n g) (λ j h. same_record j))) (tab_below (2 ^ n) _ _ (λ j h. ap bit (same_open j))))
          (ap (λ (a : Reply). a.answer) (e 0 (omega arith)))

      go : (b : Bool) → ltb (first_bad n g) 512 ≡ b → shape f (first_bad n g) (writing (repaired n g) out (g 0).answer) ≡ shape g (first_bad n g) (writing (repaired n g) out (g 0).answer)
      go true q = ap (λ (a : Reply). pick (ltb (first_bad n g) 512) (leaving out (at_lane (first_bad n g) a.answer)) (writing (repaired n g) out (g 0).answer)) (e (first_bad n g) (ltb-true (first_bad n g) 512 q))
      go false q =
          ap (λ (b : Bool). pick b (leaving out (at_lane (first_bad n g) (f (first_bad n g)).answer)) (writing (repaired n g) out (g 0).answer)) q
          ∙ sym (ap (λ (b : Bool). pick b (leaving out (at_lane (first_bad n g) (g (first_bad n g)).answer)) (writing (repaired n g) out (g 0).answer)) q)
