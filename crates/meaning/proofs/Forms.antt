-- What is known where a table's rows do not apply.
--     Good, good           a sheet that none of 11, 12, 19, 13 meets
--     Worded, worded       a word, and room for the answer, that no refusal from 14 to 16 meets
--     checked-none, worded_none     none applies where checking answers done
--     form_parts           both, and a ceiling: what is known where decoding has no fault of form
--     bits_back            symbols up to 1 are bits
use mathlib.Core.Path.{◌≡◌, refl, sym, ap, ◌∙◌}
use mathlib.Core.Logic.{◌⊎◌, inl, inr}
use Prim.Native.Nat.{ℕ, zero, suc, ◌*◌, ◌^◌, ◌≤◌, ◌<◌}
use native.Mathlib.Omega.{arith}
use mathlib.Core.Bool.{Bool, true, false, ◌&&◌, ◌||◌, not, true≢false}
use mathlib.Core.List.{List, [], ◌∷◌, map}
use lib.ListN.{length}
use lib.Dec.{eqb, leb, ltb}
use borrow.Author.Tests.{ltb-false, leb-false, eqb-true, not-false, lt-ltb, le-ltb}
use Rattle.bits.specs.Vectors.{bit, pick, first_place}
use Rattle.bits.proofs.Tests.{or_false_l, or_false_r}
use Rattle.meaning.specs.Limits.{largest_n, record_bytes, largest_ceiling}
use Rattle.meaning.specs.Sheet.{rules, bad_record, frees, early}
use Rattle.meaning.specs.Answers.{refuses, bad_shape, bad_check, sheet_refusals, word_refusals, call_refusals, form_refusals, checking, wording, is_one, is_done}
use Rattle.meaning.proofs.Refusals.{tried_done, none_append}
use Rattle.meaning.proofs.Sound.{rules-early}

-- ---- the sheet

pub record Good (n : ℕ) (s : List ℕ) (r : ℕ) : Type 0 where
  pub small : n ≤ largest_n
  pub long : length s ≡ 2 ^ n * record_bytes
  pub sound : ltb (bad_record n s) (2 ^ n) ≡ false
  pub ordered : early 0 (rules n s) ≡ true
  pub holding : r < frees (rules n s)
  pub check : (r ≡ 0) ⊎ ((r ≡ 6) ⊎ (r ≡ 11))
  pub roomy : r ≤ frees (rules n s)

check-length : (r k : ℕ) → bad_check r k ≡ false → (r ≡ 0) ⊎ ((r ≡ 6) ⊎ (r ≡ 11))
unfolding bad_check
check-length r k h =
    go (eqb r 0) (eqb r 6) (eqb r 11) refl refl refl (or_false_l (not (eqb r 0 || eqb r 6 || eqb r 11)) _ h)
  where
    go : (a b c : Bool) → eqb r 0 ≡ a → eqb r 6 ≡ b → eqb r 11 ≡ c → not (a || b || c) ≡ false → (r ≡ 0) ⊎ ((r ≡ 6) ⊎ (r ≡ 11))
    go true b c p q s e = inl (eqb-true r 0 p)
    go false true c p q s e = inr (inl (eqb-true r 6 q))
    go false false true p q s e = inr (inr (eqb-true r 11 s))
    go false false false p q s e = absurd (true≢false e)

some-free : (k : ℕ) → eqb k 0 ≡ false → 1 ≤ k
some-free zero h = absurd (true≢false h)
some-free (suc k) h = omega arith

-- K is at least 1, and the check leaves room for a payload
check-room : (r k : ℕ) → 1 ≤ k → bad_check r k ≡ false → r < k
unfolding bad_check
check-room r k l h = go (ltb 0 r) refl (or_false_r (not (eqb r 0 || eqb r 6 || eqb r 11)) _ h)
  where
    go : (b : Bool) → ltb 0 r ≡ b → b && leb k r ≡ false → r < k
    go true e q = omega (arith, leb-false k r q)
    go false e q = omega (arith, ltb-false 0 r e)

pub good : (n : ℕ) (s : List ℕ) (r : ℕ) → refuses (sheet_refusals n s r) ≡ false → Good n s r
unfolding sheet_refusals bad_shape
good n s r h =
    let shape = or_false_l (bad_shape n s) _ h in
    let rest = or_false_r (bad_shape n s) _ h in
    let sound : ltb (bad_record n s) (2 ^ n) ≡ false = or_false_l (ltb (bad_record n s) (2 ^ n)) _ rest in
    let last = or_false_r (ltb (bad_record n s) (2 ^ n)) _ rest in
    let some : eqb (frees (rules n s)) 0 ≡ false = or_false_l (eqb (frees (rules n s)) 0) _ last in
    let check : bad_check r (frees (rules n s)) ≡ false = or_false_l (bad_check r (frees (rules n s))) _ (or_false_r (eqb (frees (rules n s)) 0) _ last) in
    let holding : r < frees (rules n s) = check-room r (frees (rules n s)) (some-free (frees (rules n s)) some) check in
    record {
      small = ltb-false largest_n n (or_false_l (ltb largest_n n) _ shape);
      long = eqb-true (length s) (2 ^ n * record_bytes) (not-false _ (or_false_r (ltb largest_n n) _ shape));
      sound = sound;
      ordered = rules-early n s sound;
      holding = holding;
      check = check-length r (frees (rules n s)) check;
      roomy = omega (arith, holding);
    }

-- a sheet that checking calls done
pub checked-none : (n : ℕ) (s : List ℕ) (r : ℕ) → is_done (checking n s r) ≡ true → refuses (sheet_refusals n s r) ≡ false
unfolding checking sheet_refusals
checked-none n s r d = tried_done (sheet_refusals n s r) refl d

-- ---- a word

pub record Worded (wanted top needed : ℕ) (w : List ℕ) (room : ℕ) : Type 0 where
  pub long : length w ≡ wanted
  pub symbols : ltb (first_place (ltb top) w) (length w) ≡ false
  pub roomy : needed ≤ room

pub worded : (wanted top needed : ℕ) (w : List ℕ) (room : ℕ) → refuses (word_refusals wanted top needed w room) ≡ false → Worded wanted top needed w room
unfolding word_refusals
worded wanted top needed w room h =
    let rest = or_false_r (not (eqb (length w) wanted)) _ h in
    record {
      long = eqb-true (length w) wanted (not-false _ (or_false_l (not (eqb (length w) wanted)) _ h));
      symbols = or_false_l (ltb (first_place (ltb top) w) (length w)) _ rest;
      roomy = ltb-false room needed (or_false_l (ltb room needed) _ (or_false_r (ltb (first_place (ltb top) w) (length w)) _ rest));
    }

-- a word that checking it calls done
pub worded_none : (wanted top needed : ℕ) (w : List ℕ) (room : ℕ) → is_done (wording wanted top needed w room) ≡ true → refuses (word_refusals wanted top needed w room) ≡ false
unfolding wording word_refusals
worded_none wanted top needed w room d = tried_done (word_refusals wanted top needed w room) refl d

later : (w : List ℕ) → ltb (suc (first_place (ltb 1) w)) (suc (length w)) ≡ false → ltb (first_place (ltb 1) w) (length w) ≡ false
later w h = le-ltb (first_place (ltb 1) w) (length w) (omega (arith, ltb-false (suc (first_place (ltb 1) w)) (suc (length w)) h))

-- symbols up to 1 are bits
pub bits_back : (w : List ℕ) → ltb (first_place (ltb 1) w) (length w) ≡ false → map bit (map is_one w) ≡ w
bits_back [] h = refl
bits_back (zero ∷ w) h = ap {B = List ℕ} (λ l. 0 ∷ l) (bits_back w (later w h))
bits_back (suc zero ∷ w) h = ap {B = List ℕ} (λ l. 1 ∷ l) (bits_back w (later w h))
bits_back (suc (suc a) ∷ w) h =
    let two : ltb 1 (suc (suc a)) ≡ true = lt-ltb 1 (suc (suc a)) (omega arith) in
    absurd (true≢false (sym (lt-ltb 0 (suc (length w)) (omega arith)) ∙ ap (λ (b : Bool). ltb (pick b 0 (suc (first_place (ltb 1) w))) (suc (length w))) (sym two) ∙ h))

-- ---- decoding

-- a good sheet, a word, room for the answer, and a ceiling
pub form_parts : (n : ℕ) (s : List ℕ) (r c : ℕ) (w : List ℕ) (room : ℕ) → refuses (form_refusals n s r c w room) ≡ false
    → Good n s r × Worded (2 ^ n) 2 (3 * 2 ^ n) w room × (c ≤ largest_ceiling)
unfolding form_refusals
form_parts n s r c w room h =
    let (call, low) = none_append (call_refusals n s r (2 ^ n) 2 (3 * 2 ^ n) w room) _ h in
    let (sheet, word) = none_append (sheet_refusals n s r) _ call in
    (good n s r sheet, worded (2 ^ n) 2 (3 * 2 ^ n) w room word, ltb-false largest_ceiling c (or_false_l (ltb largest_ceiling c) false low))
