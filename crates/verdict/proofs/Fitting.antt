-- Whether what is handed over fits together.
--     Fit                     what is known where all fits
--     fit-eqs, fit-vals       its rows are whole
--     MadeOf, made-whole, fit-rows     rows made of a list of words
--     concluding-is           `concluding` where all is known to fit
--     concluding_misfit, misfit-read, refused     and where it is known not to
use Rattle.std.proofs.Common.{◌≡◌, refl, sym, ◌∙◌, ℕ, ◌+◌, ◌*◌, ◌/◌, ◌%◌, ◌≤◌, ◌<◌, Bool, true, false, List, length, Result, Err, eqb, leb, ltb, arith}
use native.Mathlib.Nat.{div-add-mod'}
use borrow.Author.Tests.{le-leb, lt-ltb, eq-eqb, leb-true, ltb-true, eqb-true}
use Rattle.bits.proofs.Tests.{and_i, and_l, and_r}
use Rattle.bits.specs.Rows.{rows_of}
use Rattle.bits.proofs.RowLaws.{whole-rows}
use Rattle.gf2.specs.Solve.{sys}
use Rattle.meaning.specs.Answers.{reply, leaving}
use Rattle.meaning.specs.Results.{verdict_or_refusal}
use Rattle.meaning.specs.declared.Verdict.{Verdict}
use Rattle.meaning.specs.declared.Refused.{Refused}
use Rattle.meaning.specs.declared.Refused.TheVariants as R
use Rattle.meaning.specs.declared.Answer.TheVariants.{BadShape}
use Rattle.verdict.specs.OffRows.{row_verdict}
use Rattle.verdict.specs.Concluding.{fits, concluding}
use Rattle.verdict.specs.Whole.{whole}
use Rattle.verdict.specs.declared.rows.Rows.{Rows}

pub record Fit (c w g rank e v room : ℕ) : Type 0 where
  pub wide : c < w
  pub symbols : v ≡ v / w * w
  pub roomy : 3 * (v / w) ≤ room
  pub pivots : rank ≤ g
  pub equations : e ≡ e / w * w

-- whole rows leave nothing over
pub nothing-over : (w n : ℕ) → n ≡ n / w * w → n % w ≡ 0
nothing-over w n h = let d = div-add-mod' n w in omega arith

-- and are whole
pub whole-is : (b c w n : ℕ) → c + b ≤ w → n ≡ n / w * w → whole b c w n ≡ true
whole-is b c w n h e = and_i _ _ (le-leb (c + b) w h) (eq-eqb (n % w) 0 (nothing-over w n e))

module _ (c w g rank e v room : ℕ) where
  fit : fits c w g rank e v room ≡ true → Fit c w g rank e v room
  unfolding fits
  fit t =
      let p = and_r (ltb c w) _ t in
      let q = and_r (leb rank g) _ p in
      let r = and_r (eqb (e % w) 0) _ q in
      record {
        wide = ltb-true c w (and_l (ltb c w) _ t);
        symbols = whole-rows v w (eqb-true (v % w) 0 (and_l (eqb (v % w) 0) _ r));
        roomy = leb-true (3 * (v / w)) room (and_r (eqb (v % w) 0) _ r);
        pivots = leb-true rank g (and_l (leb rank g) _ p);
        equations = whole-rows e w (eqb-true (e % w) 0 (and_l (eqb (e % w) 0) _ q));
      }

  all_fit : Fit c w g rank e v room → fits c w g rank e v room ≡ true
  unfolding fits
  all_fit f =
      and_i _ _ (lt-ltb c w f.wide)
      (and_i _ _ (le-leb rank g f.pivots)
      (and_i _ _ (eq-eqb (e % w) 0 (nothing-over w e f.equations)) (and_i _ _ (eq-eqb (v % w) 0 (nothing-over w v f.symbols)) (le-leb (3 * (v / w)) room f.roomy))))

  misfit : (Fit c w g rank e v room → ⊥) → fits c w g rank e v room ≡ false
  misfit n = go (fits c w g rank e v room) refl
    where
      go : (b : Bool) → fits c w g rank e v room ≡ b → b ≡ false
      go true q = absurd (n (fit q))
      go false q = refl

  pub fit-eqs : Fit c w g rank e v room → whole 1 c w e ≡ true
  fit-eqs f = let h = f.wide in whole-is 1 c w e (omega arith) f.equations

  pub fit-vals : Fit c w g rank e v room → whole 1 c w v ≡ true
  fit-vals f = let h = f.wide in whole-is 1 c w v (omega arith) f.symbols

-- ---- what is known of rows that were made of a list of words

abbrev pub MadeOf : {b : ℕ} → Rows b → ℕ → ℕ → List ℕ → Type 0
MadeOf r c w l = (r.words.now ≡ l) × (r.c ≡ c) × (r.w ≡ w)

pub made-whole : {b : ℕ} (r : Rows b) (c w : ℕ) (l : List ℕ) → MadeOf r c w l → (c + b ≤ w) × (length l ≡ length l / w * w)
made-whole r c w l (e, k, n) = (omega (arith, r.wide, k, n), rw (e, n) at r.whole)

pub fit-rows : (eqs vals : Rows 1) (c w g rank : ℕ) (e v : List ℕ) (room : ℕ) → MadeOf eqs c w e → MadeOf vals c w v → rank ≤ g → length v / w ≤ room / 3
    → Fit c w g rank (length e) (length v) room
fit-rows eqs vals c w g rank e v room me mv p h =
    let (wide, equations) = made-whole eqs c w e me in
    record { wide = omega (arith, wide); symbols = (made-whole vals c w v mv).1; roomy = omega (arith, h); pivots = p; equations = equations }

-- ---- the two cases of the promise

module _ (c w g m rank : ℕ) (eqs vals out : List ℕ) where
  pub concluding-is : Fit c w g rank (length eqs) (length vals) (length out) → concluding c w g m rank eqs vals out ≡ row_verdict c g m (sys (rows_of w eqs) (rows_of w vals) rank) out
  unfolding concluding
  concluding-is f = rw (all_fit c w g rank (length eqs) (length vals) (length out) f) refl

  pub concluding_misfit : (b : Bool) → b ≡ fits c w g rank (length eqs) (length vals) (length out) → b ≡ false → leaving out BadShape ≡ concluding c w g m rank eqs vals out
  unfolding concluding
  concluding_misfit b e t = rw (sym e ∙ t) refl

  pub misfit-read : (Fit c w g rank (length eqs) (length vals) (length out) → ⊥) → leaving out BadShape ≡ concluding c w g m rank eqs vals out
  misfit-read n = concluding_misfit _ refl (misfit c w g rank (length eqs) (length vals) (length out) n)

  pub refused : (r : Result Verdict Refused) → r ≡ Err R.BadShape → (Fit c w g rank (length eqs) (length vals) (length out) → ⊥) → reply out (verdict_or_refusal r) ≡ concluding c w g m rank eqs vals out
  refused r e n = rw e (misfit-read n)
