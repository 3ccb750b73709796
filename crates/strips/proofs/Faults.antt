-- The faults of form, and repairing where one applies and where none does.
--     fault-..                     the fault of form, test by test
--     lane-same                    the word of a lane, by the marks and by what is lost as a word
--     lanes-erased                 every lane has the same symbols erased
--     lane-formed                  no fault of form in a strip, none in its lanes
--     marks-many, form_room        then there are N marks, and room for the output
--     repair_refused               repairing is refused for it
--     deciding-is                  nothing is refused: what is left to decide
--     few_records, formed, whole, roomy      what is known then
--     over, decided_at, narrow     the unknowns are counted first
use mathlib.Core.Path.{◌≡◌, refl, sym, ap, ap₂, ◌∙◌}
use mathlib.Core.Logic.{⊎_elim}
use Prim.Native.Nat.{ℕ, zero, suc, ◌+◌, ◌*◌, ◌/◌, ◌^◌, ◌≤◌, ◌<◌}
use native.Mathlib.Omega.{arith}
use mathlib.Core.Bool.{Bool, true, false, not}
use mathlib.Core.List.{List, [], ◌∷◌, ◌++◌, map, append_assoc}
use lib.ListN.{length, get_or, replicate, length-map, length-replicate}
use lib.Dec.{ltb, eqb}
use borrow.Author.Tests.{lt-ltb, le-ltb, eq-eqb, ne_eqb, ltb-false, eqb-true, not-false}
use Rattle.bits.specs.Vectors.{pick, tab, ones, first_place}
use Rattle.bits.proofs.Tests.{or_false_l, or_false_r, length-tab, tab-at, not-both, place_le, place_passes, le_or_lt}
use Rattle.meaning.specs.Limits.{mask_bytes, record_bytes, largest_ceiling}
use Rattle.meaning.specs.Sheet.{rules}
use Rattle.meaning.specs.Codewords.{erased, candidates}
use Rattle.meaning.specs.Open.{is_open, open_all, open_free, closed_frozen, unknowns, equations}
use Rattle.meaning.specs.Answers.{Refusal, ◌⇒◌, first_of, fault, is_done, checking, wording, refuses, sheet_refusals, word_refusals, form_refusals, Reply, leaving, verdict}
use Rattle.meaning.specs.Results.{refusal}
use Rattle.meaning.specs.declared.Answer.{Answer}
use Rattle.meaning.specs.declared.Answer.TheVariants.{Done, BadLength, BadCeiling, TooMany}
use Rattle.meaning.specs.declared.Refused.{Refused}
use Rattle.meaning.proofs.Results.{refusal_stops}
use Rattle.meaning.proofs.Refusals.{tried_done, tried_refused, past_none, none_append}
use Rattle.meaning.proofs.Forms.{good, checked-none, Worded, worded, worded_none}
use Rattle.meaning.proofs.Demands.{under}
use Rattle.sheet.proofs.Records.{records_in}
use Rattle.sheet.proofs.Shapes.{size-most, shaped_when}
use Rattle.counting.specs.Counting.{counting}
use Rattle.counting.proofs.Lengths.{counting-all}
use Rattle.system.proofs.Testing.{length-checked}
use Rattle.decoder.specs.Deciding.{Formed}
use Rattle.decoder.proofs.Deciding.{form_none}
use Rattle.strips.specs.Repairing.{lane_bit, lane_of, repair_form, repair_refusals, lane_reply, strip_reply, repairing}
use Rattle.strips.specs.Placing.{lost_sym, lost_word}
use Rattle.strips.specs.Deciding.{lane_in, lane_verdict, repair_deciding}
use Rattle.strips.specs.Rooms.{most_wide}

-- ---- the fault of form

module _ (n : ℕ) (s : List ℕ) (r c strip : ℕ) (w : List ℕ) (room : ℕ) where
  abbrev S : List Refusal
  S = sheet_refusals n s r

  abbrev W : List Refusal
  W = word_refusals (2 ^ n) 1 (65 * 2 ^ n) w room

  abbrev L : List Refusal
  L = (not (eqb strip (2 ^ n * 64)) ⇒ BadLength) ∷ W

  abbrev C : List Refusal
  C = (ltb largest_ceiling c ⇒ BadCeiling) ∷ []

  table : fault (repair_form n s r c strip w room) ≡ first_of (λ (x : Answer). x) (S ++ (L ++ C)) Done
  unfolding repair_form
  table = ap (λ (t : List Refusal). first_of (λ (x : Answer). x) t Done) (append_assoc S L C)

  module _ (a : Answer) (ea : a ≡ checking n s r) where
    pub fault_sheet : is_done a ≡ false → a ≡ fault (repair_form n s r c strip w room)
    unfolding checking
    fault_sheet t = ea ∙ sym (tried_refused (λ (x : Answer). x) S (L ++ C) Done (ap is_done (sym ea) ∙ t)) ∙ sym table

    module _ (t : is_done a ≡ true) where
      sheet_none : refuses S ≡ false
      sheet_none = checked-none n s r (ap is_done (sym ea) ∙ t)

      size_is : length s / record_bytes ≡ 2 ^ n
      size_is = records_in (length s) (2 ^ n) (good n s r sheet_none).long

      past_sheet : fault (repair_form n s r c strip w room) ≡ pick (not (eqb strip (2 ^ n * 64))) BadLength (first_of (λ (x : Answer). x) (W ++ C) Done)
      past_sheet = table ∙ past_none (λ (x : Answer). x) S (L ++ C) Done sheet_none

      pub fault-strip : (strip ≡ length s / record_bytes * 64 → ⊥) → BadLength ≡ fault (repair_form n s r c strip w room)
      fault-strip h = sym (past_sheet ∙ rw (ne_eqb strip (2 ^ n * 64) (λ z. h (z ∙ ap (λ (k : ℕ). k * 64) (sym size_is)))) refl)

      module _ (l : strip ≡ length s / record_bytes * 64) (v : Answer) (ev : v ≡ wording (length s / record_bytes) 1 (65 * (length s / record_bytes)) w room) where
        -- N, in the value that the code has
        meant : v ≡ wording (2 ^ n) 1 (65 * 2 ^ n) w room
        meant = ev ∙ ap (λ (k : ℕ). wording k 1 (65 * k) w room) size_is

        past_strip : fault (repair_form n s r c strip w room) ≡ first_of (λ (x : Answer). x) (W ++ C) Done
        past_strip = past_sheet ∙ rw (eq-eqb strip (2 ^ n * 64) (l ∙ ap (λ (k : ℕ). k * 64) size_is)) refl

        pub fault_word : is_done v ≡ false → v ≡ fault (repair_form n s r c strip w room)
        unfolding wording
        fault_word q = meant ∙ sym (tried_refused (λ (x : Answer). x) W C Done (ap is_done (sym meant) ∙ q)) ∙ sym past_strip

        past_word : is_done v ≡ true → fault (repair_form n s r c strip w room) ≡ pick (ltb largest_ceiling c) BadCeiling Done
        past_word q = past_strip ∙ past_none (λ (x : Answer). x) W C Done (worded_none (2 ^ n) 1 (65 * 2 ^ n) w room (ap is_done (sym meant) ∙ q))

        pub fault_ceiling : is_done v ≡ true → largest_ceiling < c → BadCeiling ≡ fault (repair_form n s r c strip w room)
        fault_ceiling q h = sym (past_word q ∙ rw (lt-ltb largest_ceiling c h) refl)

        pub fault-none : is_done v ≡ true → c ≤ largest_ceiling → Done ≡ fault (repair_form n s r c strip w room)
        fault-none q h = sym (past_word q ∙ rw (le-ltb largest_ceiling c h) refl)

-- ---- what is lost, as a word

erased-lost : (a : ℕ) (x : ℕ) → pick (eqb a 0) x 2 ≡ pick (erased (lost_sym a)) 2 x
erased-lost a x = go (eqb a 0)
  where
    go : (b : Bool) → pick b x 2 ≡ pick (erased (pick b 0 2)) 2 x
    go true = refl
    go false = refl

lane_word_lem : (lost : List ℕ) (f : ℕ → ℕ) → tab (length lost) (λ (j : ℕ). pick (eqb (get_or lost j 0) 0) (f j) 2) ≡ tab (length (lost_word lost)) (λ (j : ℕ). pick (erased (get_or (lost_word lost) j 2)) 2 (f j))
lane_word_lem [] f = refl
lane_word_lem (a ∷ lost) f = ap₂ {C = List ℕ} ◌∷◌ (erased-lost a (f 0)) (lane_word_lem lost (λ (j : ℕ). f (suc j)))

pub lane-same : (strip lost : List ℕ) (t : ℕ) → lane_of strip lost t ≡ lane_in strip (lost_word lost) t
lane-same strip lost t = lane_word_lem lost (λ (j : ℕ). lane_bit strip j t)

-- a word of the bits of the known symbols has the same symbols erased
in_erased : (word : List ℕ) (f : ℕ → ℕ) → ((j : ℕ) → f j < 2) → map erased (tab (length word) (λ (j : ℕ). pick (erased (get_or word j 2)) 2 (f j))) ≡ map erased word
in_erased [] f h = refl
in_erased (s ∷ word) f h = ap₂ {C = List Bool} ◌∷◌ (go (erased s) (f 0) (h 0)) (in_erased word (λ (j : ℕ). f (suc j)) (λ j. h (suc j)))
  where
    go : (b : Bool) (x : ℕ) → x < 2 → erased (pick b 2 x) ≡ b
    go true x k = refl
    go false zero k = refl
    go false (suc zero) k = refl
    go false (suc (suc x)) k = absurd (omega arith)

module _ (strip word : List ℕ) (t n : ℕ) where
  open_same : open_all n (lane_in strip word t) ≡ open_all n word
  unfolding open_all
  open_same = ap (λ (es : List Bool). tab (2 ^ n) (is_open n es)) (in_erased word (λ (j : ℕ). lane_bit strip j t) (λ j. omega arith))

-- every lane has the same symbols erased
pub lanes-erased : (strip lost : List ℕ) (t t' : ℕ) → map erased (lane_of strip lost t) ≡ map erased (lane_of strip lost t')
lanes-erased strip lost t t' = by t ∙ sym (by t')
  where
    by : (t : ℕ) → map erased (lane_of strip lost t) ≡ map erased (lost_word lost)
    by t = ap (map erased) (lane-same strip lost t) ∙ in_erased (lost_word lost) (λ (j : ℕ). lane_bit strip j t) (λ j. omega arith)

-- a lane is a word of N symbols up to 2
lane_worded : (strip lost : List ℕ) (t N room : ℕ) → length lost ≡ N → 3 * N ≤ room → refuses (word_refusals N 2 (3 * N) (lane_of strip lost t) room) ≡ false
unfolding word_refusals
lane_worded strip lost t N room e k =
    let w : List ℕ = lane_of strip lost t in
    let l : length w ≡ length lost = length-tab (length lost) _ in
    let f : first_place (ltb 2) w ≡ length w = ⊎_elim (λ (h : length w ≤ first_place (ltb 2) w). let p = place_le (ltb 2) w in omega arith)
    (λ (h : first_place (ltb 2) w < length w). absurd (not-both (place_passes (ltb 2) w 0 h) (small (first_place (ltb 2) w) (omega arith)))) (le_or_lt (length w) (first_place (ltb 2) w)) in
    rw (eq-eqb (length w) N (l ∙ e), le-ltb (first_place (ltb 2) w) (length w) (omega arith), le-ltb room (3 * N) k) refl
  where
    two : (b : Bool) (x : ℕ) → x < 2 → ltb 2 (pick b x 2) ≡ false
    two true x h = le-ltb 2 x (omega arith)
    two false x h = refl

    small : (j : ℕ) → j < length lost → ltb 2 (get_or (lane_of strip lost t) j 0) ≡ false
    small j h = ap (ltb 2) (tab-at (length lost) _ j 0 h) ∙ two (eqb (get_or lost j 0) 0) (lane_bit strip j t) (omega arith)

-- ---- repairing

module _ (n : ℕ) (s : List ℕ) (r c : ℕ) (strip lost out : List ℕ) where
  abbrev F : List Refusal
  F = repair_form n s r c (length strip) lost (length out)

  abbrev G : ℕ
  G = unknowns n (rules n s) (lane_of strip lost 0)

  abbrev last : Reply
  last = strip_reply n (lane_reply n s r c strip lost) out

  g_same : (t : ℕ) → unknowns n (rules n s) (lane_of strip lost t) ≡ unknowns n (rules n s) (lost_word lost)
  unfolding unknowns
  g_same t = ap (λ (o : List Bool). ones (open_free (rules n s) o)) (ap (open_all n) (lane-same strip lost t) ∙ open_same strip (lost_word lost) t n)

  m_same : (t : ℕ) → equations n (rules n s) r (lane_of strip lost t) ≡ equations n (rules n s) r (lost_word lost)
  unfolding equations
  m_same t = ap (λ (o : List Bool). ones (closed_frozen (rules n s) o) + r) (ap (open_all n) (lane-same strip lost t) ∙ open_same strip (lost_word lost) t n)

  -- a good sheet, N records, N marks with room for the output, and a ceiling
  parts : refuses F ≡ false → (refuses (sheet_refusals n s r) ≡ false) × (length strip ≡ 2 ^ n * 64) × Worded (2 ^ n) 1 (65 * 2 ^ n) lost (length out) × (c ≤ largest_ceiling)
  unfolding repair_form
  parts h =
      let (p, u) = none_append (S n s r c (length strip) lost (length out) ++ L n s r c (length strip) lost (length out)) _ h in
      let (q, v) = none_append (S n s r c (length strip) lost (length out)) _ p in
      let o = not (eqb (length strip) (2 ^ n * 64)) in (
        q,
        eqb-true (length strip) (2 ^ n * 64) (not-false _ (or_false_l o _ v)),
        worded (2 ^ n) 1 (65 * 2 ^ n) lost (length out) (or_false_r o _ v),
        ltb-false largest_ceiling c (or_false_l (ltb largest_ceiling c) false u),
      )

  -- no fault of form in a strip, none in its lanes
  pub lane-formed : refuses F ≡ false → (t : ℕ) (o : List ℕ) → 3 * 2 ^ n ≤ length o → refuses (form_refusals n s r c (lane_of strip lost t) (length o)) ≡ false
  lane-formed h t o k =
      let (q, e, d, low) = parts h in
      form_none n s r c (lane_of strip lost t) o q (lane_worded strip lost t (2 ^ n) (length o) d.long k) low

  -- what `decode` answers lane t, where 18 does not apply
  lane_told : refuses F ≡ false → unknowns n (rules n s) (lost_word lost) ≤ c → (t : ℕ) → lane_reply n s r c strip lost t ≡ lane_verdict n s r strip (lost_word lost) t
  lane_told h l t =
      under n s r c (lane_of strip lost t) (replicate (3 * 2 ^ n) 0) (lane-formed h t (replicate (3 * 2 ^ n) 0) (omega (arith, length-replicate {A = ℕ} (3 * 2 ^ n) 0))) (omega (arith, g_same t))
      ∙ λ i. verdict n (g_same t i) (m_same t i) (candidates n (rules n s) r (lane-same strip lost t i)) (replicate (3 * 2 ^ n) 0)

  pub deciding-is : refuses F ≡ false → repair_deciding n s r c strip (lost_word lost) out ≡ repairing n s r c strip lost out
  unfolding repair_deciding repairing repair_refusals
  deciding-is h =
      sym (past_none (leaving out) F ((ltb c G ⇒ TooMany G) ∷ []) last h
      ∙ ap (λ (g : ℕ). pick (ltb c g) (leaving out (TooMany g)) last) (g_same 0) ∙ go (ltb c (unknowns n (rules n s) (lost_word lost))) refl)
    where
      W' : List ℕ
      W' = lost_word lost

      go : (b : Bool) → ltb c (unknowns n (rules n s) W') ≡ b
          → pick b (leaving out (TooMany (unknowns n (rules n s) W'))) last ≡ pick b (leaving out (TooMany (unknowns n (rules n s) W'))) (strip_reply n (lane_verdict n s r strip W') out)
      go true e = refl
      go false e = ap (λ (f : ℕ → Reply). strip_reply n f out) (λ i t. lane_told h (ltb-false c (unknowns n (rules n s) W') e) t i)

  pub marks-many : refuses F ≡ false → length lost ≡ 2 ^ n
  marks-many h = let (q, e, d, low) = parts h in d.long

  pub form_room : refuses F ≡ false → 65 * 2 ^ n ≤ length out
  form_room h = let (q, e, d, low) = parts h in d.roomy

  pub repair_refused : (e : Refused) → refusal e ≡ fault F → leaving out (refusal e) ≡ repairing n s r c strip lost out
  unfolding repairing repair_refusals
  repair_refused e p = ap (leaving out) p ∙ sym (tried_refused (leaving out) F ((ltb c G ⇒ TooMany G) ∷ []) last (ap is_done (sym p) ∙ refusal_stops e))

  -- no fault of form was found
  module _ (done : Done ≡ fault F) where
    passed : refuses F ≡ false
    unfolding repair_form sheet_refusals word_refusals
    passed = tried_done F refl (ap is_done (sym done))

    -- no more records than a mask can name
    pub few_records : length lost ≤ 8 * mask_bytes
    few_records = let (q, e, d, low) = parts passed in size-most n (length lost) (good n s r q).small d.long

    module _ (word : List ℕ) (ew : word ≡ lost_word lost) where
      many : length word ≡ 2 ^ n
      many = ap length ew ∙ length-map lost lost_sym ∙ marks-many passed

      pub formed : Formed n s r word
      formed =
          let (q, e, d, low) = parts passed in
          let g = good n s r q in
          record {
            small = g.small;
            long = g.long;
            ordered = g.ordered;
            check = length-checked g.check;
            symbols = many;
          }

      pub whole : length strip ≡ 2 ^ n * 64
      whole = let (q, e, d, low) = parts passed in e

      pub roomy : 65 * length word ≤ length out
      roomy = omega (arith, many, form_room passed)

      module _ (g : ℕ) (eg : g ≡ counting n s word) where
        all-counted : g ≡ unknowns n (rules n s) word
        all-counted = let f = formed in eg ∙ counting-all n s word refl (shaped_when n (length s) (length word) f.small f.long f.symbols)

        same : g ≡ unknowns n (rules n s) (lost_word lost)
        same = all-counted ∙ ap (unknowns n (rules n s)) ew

        pub over : c < g → leaving out (TooMany g) ≡ repairing n s r c strip lost out
        unfolding repair_deciding
        over h = ap (λ (k : ℕ). leaving out (TooMany k)) same ∙ sym (rw (lt-ltb c (unknowns n (rules n s) (lost_word lost)) (omega (arith, same))) refl) ∙ deciding-is passed

        module _ (h : g ≤ c) where
          -- the ceiling can as well be the number of unknowns
          pub decided_at : (x : Reply) → x ≡ repair_deciding n s r g strip word out → x ≡ repairing n s r c strip lost out
          unfolding repair_deciding
          decided_at x p =
              let e : repair_deciding n s r g strip (lost_word lost) out ≡ repair_deciding n s r c strip (lost_word lost) out =
              rw (le-ltb g (unknowns n (rules n s) (lost_word lost)) (omega (arith, same)), le-ltb c (unknowns n (rules n s) (lost_word lost)) (omega (arith, same))) refl in
              p ∙ ap (λ (l : List ℕ). repair_deciding n s r g strip l out) ew ∙ e ∙ deciding-is passed

          -- a word for each 64 unknowns, one for the constant, and eight for the lanes
          pub narrow : g / 64 + 1 + 9 ≤ most_wide
          unfolding most_wide
          narrow = let (q, e, d, low) = parts passed in omega (arith, h, low)
