-- What follows from the promise of `repair`: of any answer a, and bytes x of the output after the call. Premise of all but the first four: no fault of form, so
-- that no refusal but 18 applies.
--     repair_determined, same_result     any two results that the promise allows are equal, as answers and as they are
--     repair_untouched      what is refused leaves the output as found
--     lost_ignored          two strips that differ in lost records alone get the same reply
--     Laned, each_lane      each lane's answer is what any result of `decode` on that lane alone gives: code, g, m, d and settled places; its demand 3 is why a
--                           record is settled in every lane or in none
--     first_lane            2 names the first lane that `decode` calls inconsistent
--     whole_unmarked        0 exactly where no record is marked
--     read_kept             a record that was read is written as it is
use mathlib.Core.Path.{◌≡◌, refl, sym, ap, ap₂, ◌∙◌}
use mathlib.Core.Logic.{◌↔◌, ⊎_elim}
use Prim.Native.Nat.{ℕ, zero, suc, ◌+◌, ◌*◌, ◌/◌, ◌%◌, ◌^◌, ◌≤◌, ◌<◌}
use native.Mathlib.Omega.{arith}
use mathlib.Core.Bool.{Bool, true, false, true≢false}
use mathlib.Core.List.{List, [], ◌∷◌, ◌++◌, flatten, append_assoc, Memᴰ}
use lib.ListN.{length, drop, get_or, replicate, length-replicate, get_or-append}
use lib.Seq.{get_or-append-add}
use lib.Dec.{eqb, ltb}
use borrow.Author.Tests.{lt-ltb, le-ltb, eq-eqb, ne_eqb, eqb-true}
use Rattle.bits.specs.Vectors.{bit, pick, tab}
use Rattle.bits.specs.Words.{bit_at}
use Rattle.bits.specs.Rows.{row, rows, Wide}
use Rattle.bits.proofs.Tests.{and_l, and_r, length-tab, tab-at, tab_below, place-first, place_passes, eq_or_ne, le_or_lt}
use Rattle.bits.proofs.WordBits.{bit-suc}
use Rattle.bits.proofs.RowLaws.{get_or_part, length-flatten, rows_front}
use Rattle.bits.proofs.Records.{wide-tab}
use Rattle.meaning.specs.Sheet.{Rule, rules}
use Rattle.meaning.specs.Codewords.{fits, agrees, candidates}
use Rattle.meaning.specs.Open.{unknowns, equations}
use Rattle.meaning.specs.Strips.{settled_at}
use Rattle.meaning.specs.Answers.{Reply, numbers_of, first_of, refuses, form_refusals, reply, leaving, writing, verdict, decoding}
use Rattle.std.specs.Prelude.{Result}
use Rattle.meaning.specs.Results.{verdict_or_refusal}
use Rattle.meaning.specs.declared.Verdict.{Verdict}
use Rattle.meaning.specs.declared.Refused.{Refused}
use Rattle.meaning.specs.declared.Answer.{Answer}
use Rattle.meaning.specs.declared.Answer.TheVariants.{TooMany}
use Rattle.meaning.proofs.Refusals.{refused_untouched, past_none}
use Rattle.meaning.proofs.Candidates.{candidate_iff}
use Rattle.meaning.proofs.Determined.{reply_determined}
use Rattle.meaning.proofs.Results.{verdict_or_refusal_same}
use Rattle.meaning.proofs.Unique.{settled_le, unique_settled}
use Rattle.meaning.proofs.Demands.{code, g_of_lem, m_of_lem, d_of_lem, over, under, over_iff, verdict-settled, same-unknowns, SameFate, demand_3}
use Rattle.verdict.proofs.Listing.{common-same}
use Rattle.lanes.specs.Lanes.{up_to, packed}
use Rattle.lanes.proofs.Spelling.{packed_ext, packed-bits}
use Rattle.strips.specs.Repairing.{lane_bit, lane_of, repair_form, repair_refusals, is_inconsistent, at_lane, settled_in, open_at, byte_at, record_at, repaired, first_bad, strip_reply, lane_reply, repairing}
use Rattle.strips.proofs.Faults.{lanes-erased, lane-formed, marks-many}
use Rattle.strips.proofs.Kept.{record_long, reply_below}

pub repair_determined : (n : ℕ) (s : List ℕ) (r c : ℕ) (strip lost out x x' : List ℕ) (a a' : Answer)
    → reply x a ≡ repairing n s r c strip lost out → reply x' a' ≡ repairing n s r c strip lost out → (a ≡ a') × (x ≡ x')
repair_determined n s r c strip lost out x x' a a' p q = reply_determined a a' x x' (repairing n s r c strip lost out) p q

pub same_result : (n : ℕ) (s : List ℕ) (r c : ℕ) (strip lost out x x' : List ℕ) (a a' : Result Verdict Refused)
    → reply x (verdict_or_refusal a) ≡ repairing n s r c strip lost out → reply x' (verdict_or_refusal a') ≡ repairing n s r c strip lost out → (a ≡ a') × (x ≡ x')
same_result n s r c strip lost out x x' a a' p q =
    let (e, f) = repair_determined n s r c strip lost out x x' (verdict_or_refusal a) (verdict_or_refusal a') p q in
    (verdict_or_refusal_same a a' e, f)

pub repair_untouched : (n : ℕ) (s : List ℕ) (r c : ℕ) (strip lost out x : List ℕ) (a : Answer)
    → reply x a ≡ repairing n s r c strip lost out → refuses (repair_refusals n s r c strip lost out) ≡ true → x ≡ out
unfolding repairing
repair_untouched n s r c strip lost out x a p h = ap (λ (t : Reply). t.bytes) p ∙ refused_untouched out (repair_refusals n s r c strip lost out) _ h

-- ---- lost records

-- they agree in every record that is not lost
abbrev pub SameRead : List ℕ → List ℕ → List ℕ → Type 0
SameRead lost strip strip' = (j i : ℕ) → get_or lost j 0 ≡ 0 → i < 64 → get_or strip (j * 64 + i) 0 ≡ get_or strip' (j * 64 + i) 0

same-lane : (strip strip' lost : List ℕ) → SameRead lost strip strip' → (t : ℕ) → t < 512 → lane_of strip lost t ≡ lane_of strip' lost t
same-lane strip strip' lost h t l = tab_below (length lost) _ _ (λ j p. go j (eqb (get_or lost j 0) 0) refl)
  where
    go : (j : ℕ) (b : Bool) → eqb (get_or lost j 0) 0 ≡ b → pick b (lane_bit strip j t) 2 ≡ pick b (lane_bit strip' j t) 2
    go j true e = ap (λ (y : ℕ). bit_at y (t % 8)) (h j (t / 8) (eqb-true (get_or lost j 0) 0 e) (omega arith))
    go j false e = refl

pub lost_ignored : (n : ℕ) (s : List ℕ) (r c : ℕ) (strip strip' lost out : List ℕ) → length strip ≡ length strip' → SameRead lost strip strip'
    → repairing n s r c strip lost out ≡ repairing n s r c strip' lost out
unfolding repairing repair_refusals
lost_ignored n s r c strip strip' lost out l h =
    let e = same-lane strip strip' lost h in
    ap₂ (λ (k : ℕ) (w : List ℕ). first_of (leaving out) (repair_form n s r c k lost (length out) ++ (record { applies = ltb c (unknowns n (rules n s) w); answer = TooMany (unknowns n (rules n s) w) } ∷ [])) (strip_reply n (lane_reply n s r c strip lost) out)) l (e 0 (omega arith))
    ∙ ap (first_of (leaving out) (repair_refusals n s r c strip' lost out)) (reply_below n (lane_reply n s r c strip lost) (lane_reply n s r c strip' lost) (λ t p. ap (λ (w : List ℕ). decoding n s r c w (replicate (3 * 2 ^ n) 0)) (e t p)) out)

-- ---- one lane, with two buffers

module _ (n g m : ℕ) (o o' : List ℕ) where
  same_answer : (cs : List (List Bool)) → (verdict n g m cs o).answer ≡ (verdict n g m cs o').answer
  unfolding verdict
  same_answer [] = refl
  same_answer (x ∷ []) = refl
  same_answer (x ∷ y ∷ cs) = refl

-- where a verdict is not 2 there are candidates, and it is 0 or 1
some-agree : (n g m : ℕ) (o : List ℕ) (cs : List (List Bool)) → is_inconsistent (verdict n g m cs o).answer ≡ false → (0 < length cs) × (code (verdict n g m cs o) ≤ 1)
unfolding verdict
some-agree n g m o [] h = absurd (true≢false h)
some-agree n g m o (x ∷ []) h = (omega arith, omega arith)
some-agree n g m o (x ∷ y ∷ cs) h = (omega arith, omega arith)

code_unique : (n g m : ℕ) (o : List ℕ) (cs : List (List Bool)) → code (verdict n g m cs o) ≡ 0 → length cs ≡ 1
unfolding verdict
code_unique n g m o [] h = absurd (omega arith)
code_unique n g m o (x ∷ []) h = refl
code_unique n g m o (x ∷ y ∷ cs) h = absurd (omega arith)

unique_code : (n g m : ℕ) (o : List ℕ) (cs : List (List Bool)) → length cs ≡ 1 → code (verdict n g m cs o) ≡ 0
unfolding verdict
unique_code n g m o [] h = absurd (omega arith)
unique_code n g m o (x ∷ []) h = refl
unique_code n g m o (x ∷ y ∷ cs) h = absurd (omega arith)

accepted : (n g m : ℕ) (o : List ℕ) (cs : List (List Bool)) → code (verdict n g m cs o) ≤ 1 → 0 < length cs
unfolding verdict
accepted n g m o [] h = absurd (omega arith)
accepted n g m o (x ∷ []) h = omega arith
accepted n g m o (x ∷ y ∷ cs) h = omega arith

module _ (n : ℕ) (s : List ℕ) (r c : ℕ) (w o o' : List ℕ) (ok : refuses (form_refusals n s r c w (length o)) ≡ false) (ok' : refuses (form_refusals n s r c w (length o')) ≡ false) where
  abbrev G : ℕ
  G = unknowns n (rules n s) w

  pub any_buffer : (decoding n s r c w o).answer ≡ (decoding n s r c w o').answer
  any_buffer = ⊎_elim
      (λ (h : G ≤ c). ap (λ (a : Reply). a.answer) (under n s r c w o ok h) ∙ same_answer n G (equations n (rules n s) r w) o o' (candidates n (rules n s) r w) ∙ sym (ap (λ (a : Reply). a.answer) (under n s r c w o' ok' h)))
      (λ (h : c < G). ap (λ (a : Reply). a.answer) (over n s r c w o ok h) ∙ sym (ap (λ (a : Reply). a.answer) (over n s r c w o' ok' h))) (le_or_lt G c)

  pub any_settled : G ≤ c → code (decoding n s r c w o) ≤ 1 → (j : ℕ) → j < 2 ^ n → get_or (decoding n s r c w o).bytes j 0 ≡ get_or (decoding n s r c w o').bytes j 0
  any_settled h k j l =
      let cs = candidates n (rules n s) r w in
      let m = equations n (rules n s) r w in
      let q : 0 < length cs = accepted n G m o cs (rw (under n s r c w o ok h) at k) in
      ap (λ (a : Reply). get_or a.bytes j 0) (under n s r c w o ok h) ∙ verdict-settled n G m o cs q j l
      ∙ sym (ap (λ (a : Reply). get_or a.bytes j 0) (under n s r c w o' ok' h) ∙ verdict-settled n G m o' cs q j l)

-- ---- a symbol that was read

-- a codeword that agrees has it
agree_at : (w : List ℕ) (x : List Bool) (j k : ℕ) → agrees w x ≡ true → j < length w → j < length x → get_or w j 2 ≡ k → k < 2 → bit (get_or x j false) ≡ k
agree_at [] x j k a l m e h = absurd (omega arith)
agree_at (v ∷ w) [] j k a l m e h = absurd (omega arith)
agree_at (v ∷ w) (b ∷ x) (suc j) k a l m e h = agree_at w x j k (and_r (fits v b) _ a) (omega arith) (omega arith) e h
agree_at (v ∷ w) (b ∷ x) zero k a l m e h = go v b (and_l (fits v b) _ a) e
  where
    go : (v : ℕ) (b : Bool) → fits v b ≡ true → v ≡ k → bit b ≡ k
    go zero true f e = absurd (true≢false (sym f))
    go zero false f e = e
    go (suc zero) true f e = e
    go (suc zero) false f e = absurd (true≢false (sym f))
    go (suc (suc v)) b f e = absurd (omega arith)

-- and so it is settled
settled_read : (n : ℕ) (ks : List Rule) (r : ℕ) (w : List ℕ) (j k : ℕ) → 0 < length (candidates n ks r w) → length w ≡ 2 ^ n → j < 2 ^ n → get_or w j 2 ≡ k → k < 2 → settled_at (candidates n ks r w) j ≡ k
settled_read n ks r w j k some l h e low =
    let (x, m) = head (candidates n ks r w) some in
    let (v, ev) = bit_of k low in
    common-same (λ (y : List Bool). get_or y j false) (candidates n ks r w) v x m
    (λ y q. let ((ly, _), a) = (candidate_iff n ks r w y).0 q in bit_inj (get_or y j false) v (agree_at w y j k a (omega arith) (omega arith) e low ∙ sym ev)) ∙ ev
  where
    head : (cs : List (List Bool)) → 0 < length cs → (x : List Bool) × Memᴰ x cs
    head [] h = absurd (omega arith)
    head (x ∷ cs) h = (x, Memᴰ.head refl)

    bit_of : (k : ℕ) → k < 2 → (v : Bool) × (bit v ≡ k)
    bit_of zero h = (false, refl)
    bit_of (suc zero) h = (true, refl)
    bit_of (suc (suc k)) h = absurd (omega arith)

    bit_inj : (a b : Bool) → bit a ≡ bit b → a ≡ b
    bit_inj true true e = refl
    bit_inj false false e = refl
    bit_inj true false e = absurd (omega arith)
    bit_inj false true e = absurd (omega arith)

-- ---- bytes of the output

-- bit b of a number whose bits are given
packed-bit : (k : ℕ) (f : ℕ → ℕ) → ((i : ℕ) → i < k → f i < 2) → (b : ℕ) → b < k → bit_at (packed k f) b ≡ f b
packed-bit zero f h b l = absurd (omega arith)
packed-bit (suc k) f h zero l =
    let z = h 0 (omega arith) in
    let e : (f 0 + packed k (λ (i : ℕ). f (suc i)) * 2) / 1 % 2 ≡ f 0 = omega arith in
    e
packed-bit (suc k) f h (suc b) l =
    let z = h 0 (omega arith) in
    let e : (f 0 + packed k (λ (i : ℕ). f (suc i)) * 2) / 2 ≡ packed k (λ (i : ℕ). f (suc i)) = omega arith in
    bit-suc (f 0 + packed k (λ (i : ℕ). f (suc i)) * 2) b ∙ ap (λ (y : ℕ). bit_at y b) e ∙ packed-bit k (λ (i : ℕ). f (suc i)) (λ i p. h (suc i) (omega arith)) b (omega arith)

-- the mark of record j
abbrev pub mark_at : ℕ → List ℕ → ℕ → ℕ
mark_at n x j = get_or x (2 ^ n * 64 + j) 0

module _ (n : ℕ) (lane : ℕ → Reply) (rest x : List ℕ) (e : x ≡ repaired n lane ++ rest) where
  abbrev R : List (List ℕ)
  R = tab (2 ^ n) (record_at n lane)

  abbrev M : List ℕ
  M = tab (2 ^ n) (λ (j : ℕ). bit (open_at n lane j))

  spread : x ≡ flatten R ++ (M ++ rest)
  spread = e ∙ append_assoc (flatten R) M rest

  wide : Wide 64 R
  wide = wide-tab 64 (2 ^ n) (record_at n lane) (record_long n lane)

  record_at_lem : (j : ℕ) → j < 2 ^ n → row 64 x j ≡ record_at n lane j
  record_at_lem j h =
      let l : length R ≡ 2 ^ n = length-tab (2 ^ n) (record_at n lane) in
      sym (tab-at (2 ^ n) (row 64 x) j [] h) ∙ ap (λ (rs : List (List ℕ)). get_or rs j []) (ap₂ (λ (k : ℕ) (y : List ℕ). rows 64 k y) (sym l) spread ∙ rows_front 64 R (M ++ rest) wide) ∙ tab-at (2 ^ n) (record_at n lane) j [] h

  byte-at : (j i : ℕ) → j < 2 ^ n → i < 64 → get_or x (j * 64 + i) 0 ≡ get_or (record_at n lane j) i 0
  byte-at j i h k = sym (get_or_part x (j * 64) 64 i k) ∙ ap (λ (y : List ℕ). get_or y i 0) (record_at_lem j h)

  mark_is : (j : ℕ) → j < 2 ^ n → mark_at n x j ≡ bit (open_at n lane j)
  mark_is j h =
      let l : length (flatten R) ≡ 2 ^ n * 64 = length-flatten 64 R wide ∙ ap (λ (k : ℕ). k * 64) (length-tab (2 ^ n) (record_at n lane)) in
      let lm : length M ≡ 2 ^ n = length-tab (2 ^ n) (λ (j : ℕ). bit (open_at n lane j)) in
      ap (λ (y : List ℕ). get_or y (2 ^ n * 64 + j) 0) spread ∙ ap (λ (k : ℕ). get_or (flatten R ++ (M ++ rest)) (k + j) 0) (sym l) ∙ get_or-append-add (flatten R) (M ++ rest) j 0
      ∙ get_or-append M rest 0 j (omega arith) ∙ tab-at (2 ^ n) (λ (j : ℕ). bit (open_at n lane j)) j 0 h

  module _ (j : ℕ) (h : j < 2 ^ n) where
    open_zeros : open_at n lane j ≡ true → row 64 x j ≡ replicate 64 0
    open_zeros q = record_at_lem j h ∙ ap (λ (b : Bool). pick b (replicate 64 0) (tab 64 (byte_at n lane j))) q

    closed_byte : open_at n lane j ≡ false → (i : ℕ) → i < 64 → get_or x (j * 64 + i) 0 ≡ byte_at n lane j i
    closed_byte q i k = byte-at j i h k ∙ ap (λ (b : Bool). get_or (pick b (replicate 64 0) (tab 64 (byte_at n lane j))) i 0) q ∙ tab-at 64 (byte_at n lane j) i 0 k

    closed_bit : open_at n lane j ≡ false → ((t : ℕ) → t < 512 → settled_in n lane t j < 2) → (t : ℕ) → t < 512 → lane_bit x j t ≡ settled_in n lane t j
    closed_bit q low t k =
        let z : 8 * (t / 8) + t % 8 ≡ t = omega arith in
        ap (λ (y : ℕ). bit_at y (t % 8)) (closed_byte q (t / 8) (omega arith)) ∙ packed-bit 8 (λ (b : ℕ). settled_in n lane (8 * (t / 8) + b) j) (λ i l. low (8 * (t / 8) + i) (omega arith)) (t % 8) (omega arith)
        ∙ ap (λ (i : ℕ). settled_in n lane i j) z

-- ---- a strip without a fault of form

module _ (n : ℕ) (s : List ℕ) (r c : ℕ) (strip lost out x : List ℕ) (a : Answer) (p : reply x a ≡ repairing n s r c strip lost out) (ok : refuses (repair_form n s r c (length strip) lost (length out)) ≡ false) where
  abbrev A : Reply
  A = reply x a

  abbrev L : ℕ → Reply
  L = lane_reply n s r c strip lost

  abbrev U : ℕ → ℕ
  U t = unknowns n (rules n s) (lane_of strip lost t)

  abbrev zeros : List ℕ
  zeros = replicate (3 * 2 ^ n) 0

  room : 3 * 2 ^ n ≤ length zeros
  room = omega (arith, length-replicate {A = ℕ} (3 * 2 ^ n) 0)

  good : (t : ℕ) → refuses (form_refusals n s r c (lane_of strip lost t) (length zeros)) ≡ false
  good t = lane-formed n s r c strip lost out ok t zeros room

  -- 18, or what the lanes say
  told : A ≡ pick (ltb c (U 0)) (leaving out (TooMany (U 0))) (strip_reply n L out)
  unfolding repairing repair_refusals
  told = p ∙ past_none (leaving out) (repair_form n s r c (length strip) lost (length out)) _ _ ok

  same_u : (t : ℕ) → U t ≡ U 0
  same_u t = same-unknowns n s r (lane_of strip lost t) (lane_of strip lost 0) (lanes-erased strip lost t 0)

  -- demand 3, of two lanes
  fate : (t : ℕ) → SameFate n (L t) (L 0)
  fate t = demand_3 n s r (lane_of strip lost t) (lane_of strip lost 0) (lanes-erased strip lost t 0) c zeros zeros (good t) (good 0)

  -- ---- where 18 does not apply

  module _ (h : U 0 ≤ c) where
    low : (t : ℕ) → U t ≤ c
    low t = omega (arith, same_u t)

    abbrev cs : ℕ → List (List Bool)
    cs t = candidates n (rules n s) r (lane_of strip lost t)

    spoken : (t : ℕ) → L t ≡ verdict n (U t) (equations n (rules n s) r (lane_of strip lost t)) (cs t) zeros
    spoken t = under n s r c (lane_of strip lost t) zeros (good t) (low t)

    sound-lane : (t : ℕ) → is_inconsistent (L t).answer ≡ false → (0 < length (cs t)) × (code (L t) ≤ 1)
    sound-lane t q =
        let (k, l) = some-agree n _ _ zeros (cs t) (ap (λ (v : Reply). is_inconsistent v.answer) (sym (spoken t)) ∙ q) in
        (k, rw (spoken t) l)

    settled_is : (t : ℕ) → 0 < length (cs t) → (j : ℕ) → j < 2 ^ n → settled_in n L t j ≡ settled_at (cs t) j
    settled_is t k j l = ap (λ (v : Reply). get_or v.bytes j 0) (spoken t) ∙ verdict-settled n _ _ zeros (cs t) k j l

    replied : A ≡ strip_reply n L out
    replied = told ∙ ap (λ (b : Bool). pick b (leaving out (TooMany (U 0))) (strip_reply n L out)) (le-ltb c (U 0) h)

    abbrev K : ℕ
    K = first_bad n L

    -- a lane is inconsistent
    bad_told : K < 512 → A ≡ leaving out (at_lane K (L K).answer)
    unfolding strip_reply
    bad_told l = replied ∙ ap (λ (b : Bool). pick b (leaving out (at_lane K (L K).answer)) (writing (repaired n L) out (L 0).answer)) (lt-ltb K 512 l)

    -- none is
    sound_told : 512 ≤ K → A ≡ writing (repaired n L) out (L 0).answer
    unfolding strip_reply
    sound_told l = replied ∙ ap (λ (b : Bool). pick b (leaving out (at_lane K (L K).answer)) (writing (repaired n L) out (L 0).answer)) (le-ltb K 512 l)

    all_lanes : length (up_to 512) ≡ 512
    all_lanes = length-tab 512 (λ (i : ℕ). i)

    -- lanes before the first inconsistent one
    before_bad : (t : ℕ) → t < 512 → t < K → is_inconsistent (L t).answer ≡ false
    before_bad t l k =
        let e : get_or (up_to 512) t 0 ≡ t = tab-at 512 (λ (i : ℕ). i) t 0 l in
        ap (λ (i : ℕ). is_inconsistent (L i).answer) (sym e) ∙ place-first (λ (t : ℕ). is_inconsistent (L t).answer) (up_to 512) 0 t k

    -- and it
    at_bad : K < 512 → code (L K) ≡ 2
    at_bad l =
        let e : get_or (up_to 512) K 0 ≡ K = tab-at 512 (λ (i : ℕ). i) K 0 l in
        eqb-true (code (L K)) 2 (ap (λ (i : ℕ). is_inconsistent (L i).answer) (sym e) ∙ place_passes (λ (t : ℕ). is_inconsistent (L t).answer) (up_to 512) 0 (omega (arith, all_lanes)))

    -- ---- where no lane is inconsistent

    module _ (late : 512 ≤ K) where
      fine : (t : ℕ) → t < 512 → (0 < length (cs t)) × (code (L t) ≤ 1)
      fine t l = sound-lane t (before_bad t l (omega arith))

      x_is : x ≡ repaired n L ++ drop (length (repaired n L)) out
      x_is = ap (λ (v : Reply). v.bytes) (sound_told late)

      alike : (t : ℕ) → t < 512 → (code (L t) ≡ code (L 0)) × (d_of_lem (L t) ≡ d_of_lem (L 0)) × ((j : ℕ) → j < 2 ^ n → (settled_in n L t j ≡ 2) ↔ (settled_in n L 0 j ≡ 2))
      alike t l = (fate t).accepted (fine t l).1 (fine 0 (omega arith)).1

      -- a settled record has bits
      small : (j : ℕ) → j < 2 ^ n → open_at n L j ≡ false → (t : ℕ) → t < 512 → settled_in n L t j < 2
      small j k q t l =
          let v : ℕ = settled_in n L t j in
          let b : v ≤ 2 = rw (settled_is t (fine t l).0 j k) (settled_le (cs t) j) in
          let z : (v ≡ 2) → ⊥ = λ e. true≢false (sym (eq-eqb (settled_in n L 0 j) 2 (((alike t l).2 j k).0 e)) ∙ q) in
          ⊎_elim (λ (e : v ≡ 2). absurd (z e)) (λ (d : v ≡ 2 → ⊥). under_two v b d) (eq_or_ne v 2)
        where
          under_two : (v : ℕ) → v ≤ 2 → (v ≡ 2 → ⊥) → v < 2
          under_two v b d = ⊎_elim (λ (e : 2 ≤ v). absurd (d (omega arith))) (λ (e : v < 2). e) (le_or_lt 2 v)

  -- ---- each lane

  -- what a result of `decode` on lane t, y and b, has in common with that of the strip
  pub record Laned (t : ℕ) (y : List ℕ) (b : Answer) : Type 0 where
    pub over : (code A ≡ 18) ↔ (code (leaving y b) ≡ 18)
    pub unknowns : g_of_lem A ≡ g_of_lem (leaving y b)
    pub equations : m_of_lem A ≡ m_of_lem (leaving y b)
    pub verdict : code A ≤ 1 → (code (leaving y b) ≡ code A) × (d_of_lem (leaving y b) ≡ d_of_lem A)
    pub spoilt : code (leaving y b) ≡ 2 → code A ≡ 2
    pub settled : code A ≤ 1 → (j : ℕ) → j < 2 ^ n → (get_or y j 0 ≡ 2 → ⊥) → (lane_bit x j t ≡ get_or y j 0) × (mark_at n x j ≡ 0)
    pub unsettled : code A ≤ 1 → (j : ℕ) → j < 2 ^ n → get_or y j 0 ≡ 2 → (row 64 x j ≡ replicate 64 0) × (mark_at n x j ≡ 1)

  module _ (t : ℕ) (ht : t < 512) (o y : List ℕ) (b : Answer) (q : leaving y b ≡ decoding n s r c (lane_of strip lost t) o) (ro : 3 * 2 ^ n ≤ length o) where
    abbrev B : Reply
    B = leaving y b

    formed : refuses (form_refusals n s r c (lane_of strip lost t) (length o)) ≡ false
    formed = lane-formed n s r c strip lost out ok t o ro

    b_is : b ≡ (L t).answer
    b_is = ap (λ (v : Reply). v.answer) q ∙ any_buffer n s r c (lane_of strip lost t) o zeros formed (good t)

    by : {C : Type 0} (f : Answer → C) → f b ≡ f (L t).answer
    by f = ap f b_is

    lane_over : c < U 0 → Laned t y b
    lane_over h =
        let e : A ≡ leaving out (TooMany (U 0)) = told ∙ ap (λ (d : Bool). pick d (leaving out (TooMany (U 0))) (strip_reply n L out)) (lt-ltb c (U 0) h) in
        let f : L t ≡ leaving zeros (TooMany (U t)) = over n s r c (lane_of strip lost t) zeros (good t) (omega (arith, same_u t)) in
        let ca : code A ≡ 18 = ap code e in
        let cb : code B ≡ 18 = by (λ (v : Answer). get_or (numbers_of v) 0 0) ∙ ap code f in
        record {
          over = (λ z. cb, λ z. ca);
          unknowns = ap g_of_lem e ∙ sym (by (λ (v : Answer). get_or (numbers_of v) 2 0) ∙ ap g_of_lem f ∙ same_u t);
          equations = ap m_of_lem e ∙ sym (by (λ (v : Answer). get_or (numbers_of v) 3 0) ∙ ap m_of_lem f);
          verdict = λ z. absurd (omega arith);
          spoilt = λ z. absurd (omega arith);
          settled = λ z. absurd (omega arith);
          unsettled = λ z. absurd (omega arith);
        }

    module _ (h : U 0 ≤ c) where
      not-over : code (L t) ≡ 18 → ⊥
      not-over e = let l = (over_iff n s r c (lane_of strip lost t) zeros (good t)).0 e in omega (arith, same_u t)

      lane_bad : K h < 512 → Laned t y b
      lane_bad l =
          let e = bad_told h l in
          let ca : code A ≡ 2 = ap code e in
          let F = fate t in
          let H = fate (K h) in
          record {
            over = (λ z. absurd (omega arith), λ z. absurd (not-over (sym (by (λ (v : Answer). get_or (numbers_of v) 0 0)) ∙ z)));
            unknowns = ap g_of_lem e ∙ H.unknowns ∙ sym F.unknowns ∙ sym (by (λ (v : Answer). get_or (numbers_of v) 2 0));
            equations = ap m_of_lem e ∙ H.equations ∙ sym F.equations ∙ sym (by (λ (v : Answer). get_or (numbers_of v) 3 0));
            verdict = λ z. absurd (omega arith);
            spoilt = λ z. ca;
            settled = λ z. absurd (omega arith);
            unsettled = λ z. absurd (omega arith);
          }

      lane-sound : 512 ≤ K h → Laned t y b
      lane-sound l =
          let e = sound_told h l in
          let F = fate t in
          let S = alike h l t ht in
          let cb : code B ≡ code (L t) = by (λ (v : Answer). get_or (numbers_of v) 0 0) in
          record {
            over = (λ z. absurd (omega (arith, ap code e, (fine h l 0 (omega arith)).1)), λ z. absurd (not-over (sym cb ∙ z)));
            unknowns = ap g_of_lem e ∙ sym F.unknowns ∙ sym (by (λ (v : Answer). get_or (numbers_of v) 2 0));
            equations = ap m_of_lem e ∙ sym F.equations ∙ sym (by (λ (v : Answer). get_or (numbers_of v) 3 0));
            verdict = λ z. (cb ∙ S.0 ∙ sym (ap code e), by (λ (v : Answer). get_or (numbers_of v) 4 0) ∙ S.1 ∙ sym (ap d_of_lem e));
            spoilt = λ z. absurd (omega (arith, cb, (fine h l t ht).1));
            settled = λ z j k d.
                let w : get_or y j 0 ≡ settled_in n L t j = value j k in
                let oq : open_at n L j ≡ false = ne_eqb (settled_in n L 0 j) 2 (λ u. d (w ∙ (S.2 j k).1 u)) in
                (closed_bit n L _ x (x_is h l) j k oq (small h l j k oq) t ht ∙ sym w, mark_is n L _ x (x_is h l) j k ∙ ap bit oq);
            unsettled = λ z j k d.
                let w : get_or y j 0 ≡ settled_in n L t j = value j k in
                let oq : open_at n L j ≡ true = eq-eqb (settled_in n L 0 j) 2 ((S.2 j k).0 (sym w ∙ d)) in
                (open_zeros n L _ x (x_is h l) j k oq, mark_is n L _ x (x_is h l) j k ∙ ap bit oq);
          }
        where
          value : (j : ℕ) → j < 2 ^ n → get_or y j 0 ≡ settled_in n L t j
          value j k =
              let cb : code (decoding n s r c (lane_of strip lost t) o) ≤ 1 = omega (arith, ap code (sym q), by (λ (v : Answer). get_or (numbers_of v) 0 0), (fine h l t ht).1) in
              ap (λ (v : Reply). get_or v.bytes j 0) q ∙ any_settled n s r c (lane_of strip lost t) o zeros formed (good t) (low h t) cb j k

    -- each lane's answer is what the decoder gives that lane alone
    pub each_lane : Laned t y b
    each_lane = ⊎_elim (λ (h : U 0 ≤ c). ⊎_elim (λ (l : 512 ≤ K h). lane-sound h l) (λ (l : K h < 512). lane_bad h l) (le_or_lt 512 (K h))) (λ (h : c < U 0). lane_over h) (le_or_lt (U 0) c)

    -- 2 names the first lane that the decoder calls inconsistent
    pub first_lane : code A ≡ 2 → (t ≡ get_or (numbers_of a) 1 0 → code B ≡ 2) × (t < get_or (numbers_of a) 1 0 → code B ≡ 2 → ⊥)
    first_lane z = ⊎_elim (λ (h : U 0 ≤ c). ⊎_elim (λ (l : 512 ≤ K h). absurd (omega (arith, ap code (sound_told h l), (fine h l 0 (omega arith)).1))) (λ (l : K h < 512). named h l) (le_or_lt 512 (K h)))
        (λ (h : c < U 0). absurd (omega (arith, (lane_over h).over.1 (by (λ (v : Answer). get_or (numbers_of v) 0 0) ∙ ap code (over n s r c (lane_of strip lost t) zeros (good t) (omega (arith, same_u t))))))) (le_or_lt (U 0) c)
      where
        named : (h : U 0 ≤ c) → K h < 512 → (t ≡ get_or (numbers_of a) 1 0 → code B ≡ 2) × (t < get_or (numbers_of a) 1 0 → code B ≡ 2 → ⊥)
        named h l =
            let e : get_or (numbers_of a) 1 0 ≡ K h = ap (λ (v : Reply). get_or (numbers_of v.answer) 1 0) (bad_told h l) in
            let cb : code B ≡ code (L t) = by (λ (v : Answer). get_or (numbers_of v) 0 0) in
            (λ u. cb ∙ ap (λ (i : ℕ). code (L i)) (u ∙ e) ∙ at_bad h l, λ u v. true≢false (sym (eq-eqb (code (L t)) 2 (sym cb ∙ v)) ∙ before_bad h t ht (omega arith)))

  -- ---- 0 exactly where no record is marked

  pub whole_unmarked : code A ≤ 1 → (code A ≡ 0) ↔ ((j : ℕ) → j < 2 ^ n → mark_at n x j ≡ 0)
  whole_unmarked z = ⊎_elim (λ (h : U 0 ≤ c). ⊎_elim (λ (l : 512 ≤ K h). both h l) (λ (l : K h < 512). absurd (omega (arith, ap code (bad_told h l)))) (le_or_lt 512 (K h)))
      (λ (h : c < U 0). absurd (omega (arith, ap code (told ∙ ap (λ (d : Bool). pick d (leaving out (TooMany (U 0))) (strip_reply n L out)) (lt-ltb c (U 0) h))))) (le_or_lt (U 0) c)
    where
      both : (h : U 0 ≤ c) → 512 ≤ K h → (code A ≡ 0) ↔ ((j : ℕ) → j < 2 ^ n → mark_at n x j ≡ 0)
      both h l =
          let k = (fine h l 0 (omega arith)).0 in
          let e = sound_told h l in
          let one = unique_settled n (rules n s) r (lane_of strip lost 0) k in (
            λ u j d.
                let w = code_unique n _ _ zeros (cs h 0) (ap code (sym (spoken h 0)) ∙ sym (ap code e) ∙ u) in
                mark_is n L _ x (x_is h l) j d ∙ ap bit (ne_eqb (settled_in n L 0 j) 2 (λ v. one.0 w j d (sym (settled_is h 0 k j d) ∙ v))),
            λ u.
                ap code e ∙ ap code (spoken h 0)
                ∙ unique_code n _ _ zeros (cs h 0) (one.1 (λ j d v. marked (open_at n L j) (eq-eqb (settled_in n L 0 j) 2 (settled_is h 0 k j d ∙ v)) (sym (mark_is n L _ x (x_is h l) j d) ∙ u j d))),
          )
        where
          marked : (b : Bool) → b ≡ true → bit b ≡ 0 → ⊥
          marked true e f = omega arith
          marked false e f = true≢false (sym e)

  -- ---- a record that was read is written as it is

  pub read_kept : code A ≤ 1 → (j i : ℕ) → j < 2 ^ n → i < 64 → get_or lost j 0 ≡ 0 → get_or strip (j * 64 + i) 0 < 256 → get_or x (j * 64 + i) 0 ≡ get_or strip (j * 64 + i) 0
  read_kept z j i hj hi e small-byte = ⊎_elim (λ (h : U 0 ≤ c). ⊎_elim (λ (l : 512 ≤ K h). go h l) (λ (l : K h < 512). absurd (omega (arith, ap code (bad_told h l)))) (le_or_lt 512 (K h)))
      (λ (h : c < U 0). absurd (omega (arith, ap code (told ∙ ap (λ (d : Bool). pick d (leaving out (TooMany (U 0))) (strip_reply n L out)) (lt-ltb c (U 0) h))))) (le_or_lt (U 0) c)
    where
      many : length lost ≡ 2 ^ n
      many = marks-many n s r c strip lost out ok

      read : (h : U 0 ≤ c) → 512 ≤ K h → (t : ℕ) → t < 512 → settled_in n L t j ≡ lane_bit strip j t
      read h l t k =
          let v = (fine h l t k).0 in
          let q : get_or (lane_of strip lost t) j 2 ≡ lane_bit strip j t = tab-at (length lost) _ j 2 (omega (arith, many)) ∙ ap (λ (d : Bool). pick d (lane_bit strip j t) 2) (eq-eqb (get_or lost j 0) 0 e) in
          settled_is h t v j hj ∙ settled_read n (rules n s) r (lane_of strip lost t) j (lane_bit strip j t) v (length-tab (length lost) _ ∙ many) hj q (omega arith)

      go : (h : U 0 ≤ c) → 512 ≤ K h → get_or x (j * 64 + i) 0 ≡ get_or strip (j * 64 + i) 0
      go h l =
          let oq : open_at n L j ≡ false = ne_eqb (settled_in n L 0 j) 2 (λ (u : settled_in n L 0 j ≡ 2). let v = read h l 0 (omega arith) in let w : lane_bit strip j 0 < 2 = omega arith in omega arith) in
          closed_byte n L _ x (x_is h l) j hj oq i hi
          ∙ packed_ext 8 (λ (b : ℕ). settled_in n L (8 * i + b) j) (bit_at (get_or strip (j * 64 + i) 0))
          (λ b k.
          let p : j * 64 + (8 * i + b) / 8 ≡ j * 64 + i = omega arith in
          let q : (8 * i + b) % 8 ≡ b = omega arith in
          read h l (8 * i + b) (omega arith) ∙ ap₂ (λ (u v : ℕ). bit_at (get_or strip u 0) v) p q)
          ∙ packed-bits 8 (get_or strip (j * 64 + i) 0) small-byte
