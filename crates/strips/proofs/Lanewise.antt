-- Each lane of the rows that the model finds is the decoder's: the strip's reply, as it is read off the reduced rows, is that of its 512 lanes.
--     lane_hom, lane-constant     the constant of a lane
--     row-lane                    the rows of the records: what lane t reads off them
--     lane-verdict                its verdict
--     verdict-lanes               the strip's reply
use mathlib.Core.Path.{◌≡◌, refl, sym, ap, ap₂, ◌∙◌}
use Prim.Native.Nat.{ℕ, zero, suc, ◌+◌, ◌-◌, ◌*◌, ◌/◌, ◌%◌, ◌^◌, ◌≤◌, ◌<◌}
use native.Mathlib.Omega.{arith}
use mathlib.Core.Bool.{Bool, true, false, not}
use mathlib.Core.List.{List, [], ◌++◌, map, flatten, append_assoc}
use lib.ListN.{length, get_or, drop, replicate, length-map, get_or-append}
use lib.Dec.{eqb, ltb}
use borrow.Author.Tests.{ltb-true, ltb-false, not-true, not-false}
use Rattle.bits.specs.Vectors.{◌⊕◌, bit, pick, tab}
use Rattle.bits.specs.Words.{has_bit}
use Rattle.bits.specs.Rows.{Row, row, has, at}
use Rattle.bits.proofs.Tests.{length-tab, tab-at, tab_below, place-first, place_passes, get_or_map}
use Rattle.bits.proofs.Xor.{⊕-swap}
use Rattle.bits.proofs.WordBits.{bit-has, zero_bit}
use Rattle.bits.proofs.RowLaws.{get_or_part}
use Rattle.gf2.specs.Solve.{lead, solve}
use Rattle.gf2.specs.System.{Hom, led, consistent}
use Rattle.bits.proofs.RowXor.{has-⊻}
use Rattle.gf2.proofs.Reduced.{zero-words}
use Rattle.gf2.proofs.Solutions.{after, rest, rest-length}
use Rattle.meaning.specs.Sheet.{rule_at, rules, early}
use Rattle.meaning.specs.Codewords.{erased, candidates}
use Rattle.meaning.specs.Open.{unknowns, equations}
use Rattle.meaning.specs.Answers.{Reply, leaving, writing, verdict}
use Rattle.meaning.specs.declared.Answer.{Answer}
use Rattle.meaning.specs.declared.Answer.TheVariants.{Unique, Ambiguous, Inconsistent, LaneInconsistent}
use Rattle.model.specs.RowValues.{rows_out, rows_system}
use Rattle.model.proofs.RowValues.{rows_next, rows_sizes}
use Rattle.verdict.specs.OffRows.{settled_by, first_by, last_by, strips_by, verdict_by}
use Rattle.verdict.proofs.OneBit.{has-nought, has_same, has_other, unit_row_lem}
use Rattle.verdict.proofs.Listing.{tab_places}
use Rattle.verdict.proofs.Lanes.{Constant, lane_sym, lane_word}
use Rattle.verdict.proofs.Lanes as law
use Rattle.lanes.specs.Lanes.{up_to, lane_constant, first_unsound, row_byte, row_record, row_mark, row_repaired, row_reply}
use Rattle.lanes.proofs.Constants.{common-is, own_is}
use Rattle.lanes.proofs.Collecting.{place_below}
use Rattle.lanes.proofs.Spelling.{packed_ext}
use Rattle.strips.specs.Repairing.{lane_bit, is_inconsistent, at_lane, settled_in, open_at, byte_at, record_at, repaired, first_bad, strip_reply}
use Rattle.strips.specs.Placing.{Placed}
use Rattle.strips.specs.Deciding.{lane_in, lane_verdict}

-- ---- the constant of a lane

module _ (c w g : ℕ) (hw : c + 9 ≡ w) (hg : g ≤ 64 * c) (t : ℕ) where
  pub lane_hom : Hom (lane_constant c t)
  lane_hom x y = ap₂ ◌⊕◌ (has-⊻ (64 * c) x y) (has-⊻ (64 * (c + 1) + t) x y) ∙ ⊕-swap (has (64 * c) x) (has (64 * c) y) (has (64 * (c + 1) + t) x) (has (64 * (c + 1) + t) y)

  pub lane-constant : Constant c w g (lane_constant c t)
  lane-constant =
      let z : 64 * c / 64 < w = omega arith in
      record {
        hom = lane_hom;
        nought = ap₂ ◌⊕◌ (has-nought w (64 * c)) (has-nought w (64 * (c + 1) + t));
        unit = ap (lane_constant c t) (unit_row_lem c w) ∙ ap₂ ◌⊕◌ (has_same w (64 * c) z) (has_other w (64 * c) z (64 * (c + 1) + t) (λ (q : 64 * (c + 1) + t ≡ 64 * c). omega arith));
        unknown = λ k l. let y : k / 64 < w = omega arith in
            ap₂ ◌⊕◌ (has_other w k y (64 * c) (λ (q : 64 * c ≡ k). omega arith)) (has_other w k y (64 * (c + 1) + t) (λ (q : 64 * (c + 1) + t ≡ k). omega arith));
      }

-- ---- the rows of the records

module _ (c w n : ℕ) (strip v : List ℕ) (hw : c + 9 ≡ w) (pl : Placed c w n strip v) where
  bare_word : (j k : ℕ) → j < n → k < c + 1 → get_or (row w v j) k 0 ≡ 0
  bare_word j k h l = get_or_part v (j * w) w k (omega arith) ∙ pl.bare j k h l

  pub bare-lead : (j : ℕ) → j < n → lead c (row w v j) ≡ 0
  bare-lead j h = zero-words c (row w v j) (λ k l. bare_word j k h (omega arith))

  pub row-lane : (t : ℕ) → t < 512 → (j : ℕ) → j < n → bit (lane_constant c t (row w v j)) ≡ lane_bit strip j t
  row-lane t ht j h =
      let x = row w v j in
      let a : has (64 * c) x ≡ false = common-is c x ∙ ap (λ (y : ℕ). has_bit y 0) (bare_word j c h (omega arith)) ∙ zero_bit 0 in
      let y : get_or x (c + 1 + t / 64) 0 ≡ get_or v (j * w + (c + 1 + t / 64)) 0 = get_or_part v (j * w) w (c + 1 + t / 64) (omega arith) in
      let p : j * 64 + 8 * (t / 64) + t % 64 / 8 ≡ j * 64 + t / 8 = omega arith in
      let q : t % 64 % 8 ≡ t % 8 = omega arith in
      let b : has (64 * (c + 1) + t) x ≡ has_bit (get_or strip (j * 64 + t / 8) 0) (t % 8) =
      own_is c x t ∙ ap (λ (z : ℕ). has_bit z (t % 64)) y ∙ (pl.lanes j (t / 64) h (omega arith)).bits (t % 64) (omega arith) ∙ ap₂ (λ (i k : ℕ). has_bit (get_or strip i 0) k) p q in
      ap bit (ap₂ ◌⊕◌ a b) ∙ bit-has (get_or strip (j * 64 + t / 8) 0) (t % 8)

  pub lane_word_lem : (word : List ℕ) → length word ≡ n → (t : ℕ) → t < 512 → lane_word (lane_constant c t) word (row w v) ≡ lane_in strip word t
  lane_word_lem word lw t ht = tab_below (length word) _ _ (λ j h. go (get_or word j 2) j (omega arith))
    where
      go : (s j : ℕ) → j < n → lane_sym (lane_constant c t) s (row w v j) ≡ pick (erased s) 2 (lane_bit strip j t)
      go zero j h = row-lane t ht j h
      go (suc zero) j h = row-lane t ht j h
      go (suc (suc s)) j h = refl

-- ---- the law, and the reply

module _ (n : ℕ) (sheet word strip v : List ℕ) (c w r : ℕ) (hw : c + 9 ≡ w) (lw : length word ≡ 2 ^ n) (ok : early 0 (rules n sheet) ≡ true)
    (pl : Placed c w (2 ^ n) strip v) (hg : unknowns n (rules n sheet) word ≤ 64 * c) where
  abbrev g : ℕ
  g = unknowns n (rules n sheet) word

  abbrev m : ℕ
  m = equations n (rules n sheet) r word

  hc : c < w
  hc = omega arith

  next : (rows_out c w (rule_at sheet) n word (row w v)).after.next ≤ g
  unfolding rules
  next = omega (arith, rows_next c w (rule_at sheet) n word (row w v) lw)

  abbrev E : List Row
  E = rows_system c w (rule_at sheet) n word (row w v) r

  abbrev X : List Row
  X = (rows_out c w (rule_at sheet) n word (row w v)).block

  abbrev κ : ℕ → Row → Bool
  κ t = lane_constant c t

  abbrev A : List Row
  A = after c E X

  abbrev R : List Row
  R = rest c E X

  long_rest : length R ≡ 2 ^ n
  long_rest = rest-length c E X ∙ (rows_sizes c w (rule_at sheet) n word (row w v) lw).0

  abbrev d : ℕ
  d = g - (solve c E X).rank

  abbrev T : ℕ → Reply
  T = lane_verdict n sheet r strip word

  abbrev zeros : List ℕ
  zeros = replicate (3 * 2 ^ n) 0

  pub lane-verdict : (t : ℕ) → t < 512 → T t ≡ verdict_by c (κ t) (strips_by c (κ t) R) g m (solve c E X) zeros
  unfolding rules
  lane-verdict t ht =
      ap (λ (x : List ℕ). verdict n g m (candidates n (rules n sheet) r x) zeros) (sym (lane_word_lem c w (2 ^ n) strip v hw pl word lw t ht))
      ∙ law.lane-verdict c w g hc hg (rule_at sheet) n word (row w v) next (λ j h. bare-lead c w (2 ^ n) strip v hw pl j (omega arith)) (κ t) (lane-constant c w g hw hg t) lw refl ok r m zeros

  -- ---- the first inconsistent lane

  bad_is : (t : ℕ) → t < 512 → is_inconsistent (T t).answer ≡ not (consistent c (κ t) A)
  bad_is t ht = ap (λ (a : Reply). is_inconsistent a.answer) (lane-verdict t ht) ∙ go (consistent c (κ t) A) (eqb d 0)
    where
      new : List ℕ
      new = strips_by c (κ t) R

      go : (b e : Bool) → is_inconsistent (pick b (pick e (writing new zeros (Unique g m)) (writing new zeros (Ambiguous g m d))) (leaving zeros (Inconsistent g m))).answer ≡ not b
      go true true = refl
      go true false = refl
      go false e = refl

  first-is : first_bad n T ≡ first_unsound c A
  unfolding first_unsound
  first-is = place_below 512 (λ (i : ℕ). i) (λ (t : ℕ). is_inconsistent (T t).answer) (λ (t : ℕ). not (consistent c (κ t) A)) bad_is

  all_lanes : length (up_to 512) ≡ 512
  all_lanes = length-tab 512 (λ (i : ℕ). i)

  -- where there is one
  told_bad : (t : ℕ) → t ≡ first_unsound c A → t < 512 → at_lane t (T t).answer ≡ LaneInconsistent t g m
  unfolding first_unsound
  told_bad t e h = ap (λ (a : Reply). at_lane t a.answer) (lane-verdict t h) ∙ go (consistent c (κ t) A) (not-true _ passed)
    where
      -- its test passes
      passed : not (consistent c (κ t) A) ≡ true
      passed =
          let f : ℕ = first_unsound c A in
          let q : get_or (up_to 512) f 0 ≡ f = tab-at 512 (λ (i : ℕ). i) f 0 (omega (arith, e)) in
          ap (λ (i : ℕ). not (consistent c (κ i) A)) (e ∙ sym q) ∙ place_passes (λ (t : ℕ). not (consistent c (κ t) A)) (up_to 512) 0 (omega (arith, e, all_lanes))

      new : List ℕ
      new = strips_by c (κ t) R

      go : (b : Bool) → b ≡ false → at_lane t (pick b (pick (eqb d 0) (writing new zeros (Unique g m)) (writing new zeros (Ambiguous g m d))) (leaving zeros (Inconsistent g m))).answer ≡ LaneInconsistent t g m
      go b z = ap (λ (b : Bool). at_lane t (pick b (pick (eqb d 0) (writing new zeros (Unique g m)) (writing new zeros (Ambiguous g m d))) (leaving zeros (Inconsistent g m))).answer) z

  -- ---- where there is none

  module _ (late : ltb (first_unsound c A) 512 ≡ false) where
    sound : (t : ℕ) → t < 512 → consistent c (κ t) A ≡ true
    unfolding first_unsound
    sound t ht =
        let l = ltb-false (first_unsound c A) 512 late in
        let e : get_or (up_to 512) t 0 ≡ t = tab-at 512 (λ (i : ℕ). i) t 0 ht in
        not-false _ (ap (λ (i : ℕ). not (consistent c (κ i) A)) (sym e) ∙ place-first (λ (t : ℕ). not (consistent c (κ t) A)) (up_to 512) 0 t (omega arith))

    written : (t : ℕ) → t < 512 → T t ≡ pick (eqb d 0) (writing (strips_by c (κ t) R) zeros (Unique g m)) (writing (strips_by c (κ t) R) zeros (Ambiguous g m d))
    written t ht = lane-verdict t ht ∙ rw (sound t ht) refl

    answer-is : (t : ℕ) → t < 512 → (T t).answer ≡ pick (eqb d 0) (Unique g m) (Ambiguous g m d)
    answer-is t ht = ap (λ (a : Reply). a.answer) (written t ht) ∙ go (eqb d 0)
      where
        go : (b : Bool) → (pick b (writing (strips_by c (κ t) R) zeros (Unique g m)) (writing (strips_by c (κ t) R) zeros (Ambiguous g m d))).answer ≡ pick b (Unique g m) (Ambiguous g m d)
        go true = refl
        go false = refl

    settled_is : (t : ℕ) → t < 512 → (j : ℕ) → j < 2 ^ n → settled_in n T t j ≡ settled_by c (κ t) (at R j)
    settled_is t ht j h = ap (λ (a : Reply). get_or a.bytes j 0) (written t ht) ∙ go (eqb d 0) ∙ front
      where
        f : Row → ℕ
        f = settled_by c (κ t)

        new : List ℕ
        new = strips_by c (κ t) R

        go : (b : Bool) → get_or (pick b (writing new zeros (Unique g m)) (writing new zeros (Ambiguous g m d))).bytes j 0 ≡ get_or (new ++ drop (length new) zeros) j 0
        go true = refl
        go false = refl

        l : length (map f R) ≡ 2 ^ n
        l = length-map R f ∙ long_rest

        front : get_or (new ++ drop (length new) zeros) j 0 ≡ f (at R j)
        front =
            ap (λ (x : List ℕ). get_or x j 0) (append_assoc (map f R ++ map (first_by c (κ t)) R) (map (last_by c (κ t)) R) (drop (length new) zeros) ∙ append_assoc (map f R) (map (first_by c (κ t)) R) _)
            ∙ get_or-append (map f R) _ 0 j (omega (arith, l)) ∙ get_or_map f R j [] 0 (omega (arith, long_rest))

    open_is : (j : ℕ) → j < 2 ^ n → open_at n T j ≡ led c (at R j)
    open_is j h = ap (λ (x : ℕ). eqb x 2) (settled_is 0 (omega arith) j h) ∙ go (led c (at R j)) (κ 0 (at R j))
      where
        go : (a b : Bool) → eqb (pick a 2 (bit b)) 2 ≡ a
        go true b = refl
        go false true = refl
        go false false = refl

    record_is : (j : ℕ) → j < 2 ^ n → record_at n T j ≡ row_record c (at R j)
    unfolding row_byte
    record_is j h = ap (λ (a : Bool). pick a (replicate 64 0) (tab 64 (byte_at n T j))) (open_is j h) ∙ go (led c (at R j)) refl
      where
        go : (a : Bool) → led c (at R j) ≡ a → pick a (replicate 64 0) (tab 64 (byte_at n T j)) ≡ pick a (replicate 64 0) (tab 64 (row_byte c (at R j)))
        go true q = refl
        go false q =
            tab_below 64 (byte_at n T j) (row_byte c (at R j))
            (λ i k. packed_ext 8 _ _ (λ b l. settled_is (8 * i + b) (omega arith) j h ∙ ap (λ (a : Bool). pick a 2 (bit (κ (8 * i + b) (at R j)))) q))

    repaired-is : repaired n T ≡ row_repaired c R
    unfolding row_repaired
    repaired-is =
        ap₂ {C = List ℕ} ◌++◌ (ap flatten (tab_places [] (2 ^ n) (record_at n T) (row_record c) R long_rest record_is))
        (tab_places [] (2 ^ n) (λ (j : ℕ). bit (open_at n T j)) (row_mark c) R long_rest (λ j h. ap bit (open_is j h)))

  pub verdict-lanes : (out : List ℕ) → strip_reply n T out ≡ row_reply c g m (solve c E X) out
  unfolding strip_reply row_reply
  verdict-lanes out = ap (λ (k : ℕ). pick (ltb k 512) (leaving out (at_lane k (T k).answer)) whole) first-is ∙ go (ltb lane 512) refl
    where
      lane : ℕ
      lane = first_unsound c A

      whole : Reply
      whole = writing (repaired n T) out (T 0).answer

      read : Reply
      read = writing (row_repaired c R) out (pick (eqb d 0) (Unique g m) (Ambiguous g m d))

      go : (b : Bool) → ltb lane 512 ≡ b → pick b (leaving out (at_lane lane (T lane).answer)) whole ≡ pick b (leaving out (LaneInconsistent lane g m)) read
      go true q = ap (leaving out) (told_bad lane refl (ltb-true lane 512 q))
      go false q = ap₂ (λ (l : List ℕ) (a : Answer). writing l out a) (repaired-is q) (answer-is q 0 (omega arith))
