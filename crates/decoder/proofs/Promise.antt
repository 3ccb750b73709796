-- The archivist's demands, of any result that decode's promise allows: the answer a, and the bytes x of the buffer after the call.
-- Standing premise: no fault of form, and room to answer, so that no refusal but 18 applies; the sheet has K at least 1.
--     refused_for_size                      18 exactly when g passes the ceiling
--     one_agrees, none-agrees, some-agree   demand 2: unique, inconsistent, ambiguous of dimension d
--     written-strips                        the strips: settled, first, last; later bytes as found
--     same_fate                             demand 3: two words erased in the same places
--     more_read                             a word with some erased symbols filled in: never less is known
--     counts_bound                          under the ceiling, m and the number of erased symbols are N - K + r + g
--     ceiling_raised, ceiling_lowered       another ceiling changes no answer but to or from 18
--     ceiling_enough                        18 names the least ceiling that suffices
--     decode_determined, same_result        any two results that the promise allows are equal, as answers and as they are
use mathlib.Core.Path.{◌≡◌, sym, ap, ◌∙◌, subst}
use mathlib.Core.Logic.{◌⊎◌, inl, inr, ⊎_elim, ◌↔◌}
use Prim.Native.Nat.{ℕ, ◌+◌, ◌^◌, ◌≤◌, ◌<◌}
use mathlib.Core.Bool.{Bool, true, false}
use mathlib.Core.List.{List, [], ◌∷◌, ◌++◌, map}
use lib.ListN.{length, drop, get_or}
use Rattle.bits.specs.Vectors.{ones}
use Rattle.meaning.specs.Limits.{largest_ceiling}
use Rattle.meaning.specs.Sheet.{rules, frees}
use Rattle.meaning.specs.Codewords.{erased, candidates}
use Rattle.meaning.specs.Open.{unknowns, equations}
use Rattle.meaning.specs.Strips.{strips}
use Rattle.meaning.specs.Answers.{Reply, numbers_of, refuses, form_refusals, reply, decoding}
use Rattle.std.specs.Prelude.{Result}
use Rattle.meaning.specs.Results.{verdict_or_refusal}
use Rattle.meaning.specs.declared.Verdict.{Verdict}
use Rattle.meaning.specs.declared.Refused.{Refused}
use Rattle.meaning.specs.declared.Answer.{Answer}
use Rattle.meaning.specs.declared.Answer.TheVariants.{TooMany}
use Rattle.meaning.proofs.Determined.{reply_determined}
use Rattle.meaning.proofs.Results.{verdict_or_refusal_same}
use Rattle.meaning.proofs.Demands.{code, over_iff, unique_iff, inconsistent_iff, ambiguous_iff, strips_shown, SameFate, demand_3}
use Rattle.planning.specs.Filled.{filled_in}
use Rattle.planning.specs.MoreKnown.{code_of, g_of, m_of, formed, MoreKnown}
use Rattle.planning.proofs.Known.{numbers, balanced, more_known}
use Rattle.planning.proofs.Ceiling.{lowered, enough}

module _ (n : ℕ) (s : List ℕ) (r c : ℕ) (w out x : List ℕ) (a : Answer) (p : reply x a ≡ decoding n s r c w out) where
  pub decode_determined : (x' : List ℕ) (a' : Answer) → reply x' a' ≡ decoding n s r c w out → (a ≡ a') × (x ≡ x')
  decode_determined x' a' q = reply_determined a a' x x' (decoding n s r c w out) p q

  module _ (ok : refuses (form_refusals n s r c w (length out)) ≡ false) where
    abbrev g : ℕ
    g = unknowns n (rules n s) w

    abbrev m : ℕ
    m = equations n (rules n s) r w

    abbrev cs : List (List Bool)
    cs = candidates n (rules n s) r w

    pub refused_for_size : (get_or (numbers_of a) 0 0 ≡ 18) ↔ (c < g)
    refused_for_size = subst (λ (t : Reply). (code t ≡ 18) ↔ (c < g)) (sym p) (over_iff n s r c w out ok)

    module _ (h : g ≤ c) where
      pub one_agrees : (numbers_of a ≡ 0 ∷ 0 ∷ g ∷ m ∷ 0 ∷ []) ↔ (length cs ≡ 1)
      one_agrees = subst (λ (t : Reply). (numbers_of t.answer ≡ 0 ∷ 0 ∷ g ∷ m ∷ 0 ∷ []) ↔ (length cs ≡ 1)) (sym p) (unique_iff n s r c w out ok h)

      pub none-agrees : (numbers_of a ≡ 2 ∷ 0 ∷ g ∷ m ∷ 0 ∷ []) ↔ (length cs ≡ 0)
      none-agrees = subst (λ (t : Reply). (numbers_of t.answer ≡ 2 ∷ 0 ∷ g ∷ m ∷ 0 ∷ []) ↔ (length cs ≡ 0)) (sym p) (inconsistent_iff n s r c w out ok h)

      pub some-agree : (d : ℕ) → (numbers_of a ≡ 1 ∷ 0 ∷ g ∷ m ∷ d ∷ []) ↔ ((1 ≤ d) × (length cs ≡ 2 ^ d))
      some-agree d = subst (λ (t : Reply). (numbers_of t.answer ≡ 1 ∷ 0 ∷ g ∷ m ∷ d ∷ []) ↔ ((1 ≤ d) × (length cs ≡ 2 ^ d))) (sym p) (ambiguous_iff n s r c w out ok h d)

      pub written-strips : 0 < length cs → x ≡ strips n cs ++ drop (length (strips n cs)) out
      written-strips l = subst (λ (t : Reply). t.bytes ≡ strips n cs ++ drop (length (strips n cs)) out) (sym p) (strips_shown n s r c w out ok h l)

pub same_result : (n : ℕ) (s : List ℕ) (r c : ℕ) (w out x x' : List ℕ) (a a' : Result Verdict Refused)
    → reply x (verdict_or_refusal a) ≡ decoding n s r c w out → reply x' (verdict_or_refusal a') ≡ decoding n s r c w out → (a ≡ a') × (x ≡ x')
same_result n s r c w out x x' a a' p q =
    let (e, f) = decode_determined n s r c w out x (verdict_or_refusal a) p x' (verdict_or_refusal a') q in
    (verdict_or_refusal_same a a' e, f)

pub same_fate : (n : ℕ) (s : List ℕ) (r c : ℕ) (w w' out out' x x' : List ℕ) (a a' : Answer) → map erased w ≡ map erased w'
    → reply x a ≡ decoding n s r c w out → reply x' a' ≡ decoding n s r c w' out' → refuses (form_refusals n s r c w (length out)) ≡ false → refuses (form_refusals n s r c w' (length out')) ≡ false
    → SameFate n (reply x a) (reply x' a')
same_fate n s r c w w' out out' x x' a a' e p q ok ok' =
    subst (λ (t : Reply). SameFate n t (reply x' a')) (sym p) (subst (λ (t : Reply). SameFate n (decoding n s r c w out) t) (sym q) (demand_3 n s r w w' e c out out' ok ok'))

-- ---- another word, or another ceiling

-- neither answer is a refusal for any reason but 18
pub more_read : (n : ℕ) (s : List ℕ) (r c : ℕ) (w w' out out' x x' : List ℕ) (a a' : Answer) → filled_in w w' ≡ true
    → reply x a ≡ decoding n s r c w out → reply x' a' ≡ decoding n s r c w' out' → formed (numbers_of a) ≡ true → formed (numbers_of a') ≡ true
    → MoreKnown n w w' (numbers_of a) x (numbers_of a') x'
more_read n s r c w w' out out' x x' a a' f p q ok ok' =
    let good : (t : Reply) (m : Reply) → t ≡ m → formed (numbers t) ≡ true → formed (numbers m) ≡ true = λ t m e k. rw (← e) k in
    subst (λ (t : Reply). MoreKnown n w w' (numbers t) t.bytes (numbers_of a') x') (sym p)
    (subst (λ (t : Reply). MoreKnown n w w' (numbers (decoding n s r c w out)) (decoding n s r c w out).bytes (numbers t) t.bytes) (sym q)
    (more_known n s r c w w' f out out' (good _ _ p ok) (good _ _ q ok')))

module _ (n : ℕ) (s : List ℕ) (r c : ℕ) (w out x : List ℕ) (a : Answer) (p : reply x a ≡ decoding n s r c w out) where
  pub counts_bound : formed (numbers_of a) ≡ true → (code_of (numbers_of a) ≡ 18 → ⊥) → m_of (numbers_of a) + ones (map erased w) + frees (rules n s) ≡ 2 ^ n + r + g_of (numbers_of a)
  counts_bound ok h =
      subst (λ (t : Reply). m_of (numbers t) + ones (map erased w) + frees (rules n s) ≡ 2 ^ n + r + g_of (numbers t)) (sym p)
      (balanced n s r c w out (ap (λ (t : Reply). formed (numbers t)) (sym p) ∙ ok) (λ e. h (ap (λ (t : Reply). code_of (numbers t)) p ∙ e)))

  -- c' is a ceiling no lower
  module _ (c' : ℕ) (x' : List ℕ) (a' : Answer) (q : reply x' a' ≡ decoding n s r c' w out) (up : c ≤ c') (limit : c' ≤ largest_ceiling) where
    pub ceiling_lowered : ((a ≡ a') × (x ≡ x')) ⊎ ((a ≡ TooMany (unknowns n (rules n s) w)) × (x ≡ out) × (c < unknowns n (rules n s) w))
    ceiling_lowered =
        ⊎_elim
        (λ e. inl (reply_determined a a' x x' (decoding n s r c w out) p (q ∙ sym e)))
        (λ (e, k). let t = p ∙ e in inr (ap (λ (m : Reply). m.answer) t, ap (λ (m : Reply). m.bytes) t, k))
        (lowered n s r c c' w out up limit)

    pub ceiling_raised : (code_of (numbers_of a) ≡ 18 → ⊥) → (a' ≡ a) × (x' ≡ x)
    ceiling_raised h = ⊎_elim (λ (e, f). (sym e, sym f)) (λ (e, f, k). absurd (h (ap (λ (t : Answer). code_of (numbers_of t)) e))) ceiling_lowered

    pub ceiling_enough : code_of (numbers_of a) ≡ 18 → (code_of (numbers_of a') ≡ 18) ↔ (c' < g_of (numbers_of a))
    ceiling_enough h =
        subst (λ (t : Reply). (code_of (numbers_of a') ≡ 18) ↔ (c' < g_of (numbers t))) (sym p)
        (subst (λ (t : Reply). (code_of (numbers t) ≡ 18) ↔ (c' < g_of (numbers (decoding n s r c w out)))) (sym q)
        (enough n s r c c' w out up limit (ap (λ (t : Reply). code_of (numbers t)) (sym p) ∙ h)))
