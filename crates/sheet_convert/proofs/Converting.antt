-- What converting answers, refusal by refusal.
--     too_large, not-long      the old 11
--     not_bad, bad, short, copied     a sheet of today, handed out: 12, 16, or its bytes; of what checking it answers
--     new_shape, handed        a converted sheet has the shape of one, and handing it out is converting
use mathlib.Core.Path.{◌≡◌, refl, sym, ap, ap₂, ◌∙◌}
use Prim.Native.Nat.{ℕ, ◌*◌, ◌^◌, ◌≤◌, ◌<◌}
use native.Mathlib.Omega.{arith}
use mathlib.Core.Bool.{Bool, true, false}
use mathlib.Core.List.{List, ◌++◌}
use lib.ListN.{length, drop}
use lib.Dec.{eqb, ltb}
use borrow.Author.Tests.{lt-ltb, le-ltb, eq-eqb, ne_eqb}
use Rattle.bits.specs.Vectors.{pick}
use Rattle.meaning.specs.Limits.{layout, old_layout, largest_n, record_bytes, old_largest_n, old_record_bytes}
use Rattle.meaning.specs.Sheet.{rules, bad_record, frees}
use Rattle.meaning.specs.Answers.{Reply, bad_shape, bad_check, sheet_refusals, checking, leaving, writing}
use Rattle.std.specs.Prelude.{Result, Err}
use Rattle.meaning.specs.declared.Answer.{Answer}
use Rattle.meaning.specs.declared.Refused.{Refused}
use Rattle.meaning.specs.declared.Refused.TheVariants as R
use Rattle.meaning.specs.Results.{done_or_refusal}
use Rattle.meaning.proofs.Results.{done_or_refusal_same}
use Rattle.meaning.specs.declared.Answer.TheVariants.{Done, BadShape, BadRecord, BadCheck, HoldsNothing, ShortOutput}
use Rattle.meaning.proofs.Layouts.{bad_today}
use Rattle.sheet_convert.specs.Conversion.{widened, convert_refusals, converting, Old, handing}
use Rattle.sheet_convert.proofs.Widening.{wider, new-long, new_bad}

-- ---- the old 11

pub too_large : (n : ℕ) (s out : List ℕ) → old_largest_n < n → leaving out BadShape ≡ converting n s out
unfolding converting convert_refusals
too_large n s out h = rw (lt-ltb old_largest_n n h)

pub not-long : (n : ℕ) (s out : List ℕ) (size : ℕ) → n ≤ old_largest_n → size ≡ 2 ^ n → (length s ≡ size * old_record_bytes → ⊥) → leaving out BadShape ≡ converting n s out
unfolding converting convert_refusals
not-long n s out size h e l = rw (le-ltb old_largest_n n h, ne_eqb (length s) (2 ^ n * old_record_bytes) (λ k. l (k ∙ ap (λ (m : ℕ). m * old_record_bytes) (sym e))))

-- ---- a sheet of today, handed out

-- the tables past 11: of checking, by the tests of 12, 19 and 13, and of handing out, by those of 12 and 16
abbrev check_left : Bool → Bool → Bool → ℕ → Answer
check_left b k h i = pick b (BadRecord i) (pick k HoldsNothing (pick h BadCheck Done))

abbrev hand_left : Bool → Bool → ℕ → List ℕ → List ℕ → Reply
hand_left b o i sheet out = pick b (leaving out (BadRecord i)) (pick o (leaving out ShortOutput) (writing sheet out Done))

-- a bad record alone is answered as one
told : (b k h : Bool) (i p : ℕ) → check_left b k h i ≡ BadRecord p → b ≡ true
told true k h i p e = refl
told false true h i p e = cc
told false false true i p e = cc
told false false false i p e = cc

other : (b k h : Bool) (i : ℕ) → ((p : ℕ) → check_left b k h i ≡ BadRecord p → ⊥) → b ≡ false
other true k h i e = absurd (e i refl)
other false k h i e = refl

-- another refusal is another answer
pub not_bad : (e : Refused) → ((p : ℕ) → e ≡ R.BadRecord p → ⊥) → (p : ℕ) → done_or_refusal (Err e) ≡ BadRecord p → ⊥
not_bad e n p h = let k : ◌≡◌ {A = Result (Unit {0}) Refused} (Err e) (Err (R.BadRecord p)) = done_or_refusal_same (Err e) (Err (R.BadRecord p)) h in n p cc

module _ (n : ℕ) (sheet out : List ℕ) (shape : bad_shape n sheet ≡ false) where
  -- the first bad record, and the tests
  abbrev i : ℕ
  i = bad_record n sheet

  abbrev B : Bool
  B = ltb (bad_record n sheet) (2 ^ n)

  abbrev K : Bool
  K = eqb (frees (rules n sheet)) 0

  abbrev H : Bool
  H = bad_check 0 (frees (rules n sheet))

  checked : checking n sheet 0 ≡ check_left B K H i
  unfolding checking sheet_refusals
  checked = rw shape

  module _ (a : Answer) (ea : a ≡ checking n sheet 0) where
    pub bad : (p : ℕ) → a ≡ BadRecord p → leaving out a ≡ handing n sheet out
    unfolding handing
    bad p h =
        let t : B ≡ true = told B K H i p (sym (ea ∙ checked) ∙ h) in
        ap (leaving out) (ea ∙ checked ∙ ap (λ (b : Bool). check_left b K H i) t) ∙ sym (ap (λ (b : Bool). hand_left b (ltb (length out) (length sheet)) i sheet out) t)

    module _ (h : (p : ℕ) → a ≡ BadRecord p → ⊥) where
      good : (o : Bool) → ltb (length out) (length sheet) ≡ o → handing n sheet out ≡ hand_left false o i sheet out
      unfolding handing
      good o e = ap₂ (λ (b c : Bool). hand_left b c i sheet out) (other B K H i (λ p k. h p (ea ∙ checked ∙ k))) e

      pub short : length out < length sheet → leaving out ShortOutput ≡ handing n sheet out
      short l = sym (good true (lt-ltb (length out) (length sheet) l))

      pub copied : length sheet ≤ length out → (o : List ℕ) → o ≡ sheet → leaving (o ++ drop (length sheet) out) Done ≡ handing n sheet out
      copied l o e = ap (λ (t : List ℕ). leaving (t ++ drop (length sheet) out) Done) e ∙ sym (good false (le-ltb (length out) (length sheet) l))

-- ---- a converted sheet

module _ (n : ℕ) (old : List ℕ) (o : Old n old) where
  pub new_shape : bad_shape n (widened old_layout layout n old) ≡ false
  unfolding bad_shape
  new_shape =
      let h = o.small in
      rw (le-ltb largest_n n (omega (arith, wider.high)), eq-eqb (length (widened old_layout layout n old)) (2 ^ n * record_bytes) (new-long wider n old))

  pub handed : (out : List ℕ) → handing n (widened old_layout layout n old) out ≡ converting n old out
  unfolding handing converting convert_refusals
  handed out =
      rw (
        bad_today n (widened old_layout layout n old),
        new_bad wider n old o.small,
        new-long wider n old,
        le-ltb old_largest_n n o.small,
        eq-eqb (length old) (2 ^ n * old_record_bytes) o.long,
      )
