-- The sheet and the word of a call, one after the other.
--     call_sheet, call_word    the sheet's fault is answered, or else the word's
--     size_is, count-is        N and K, as they are read off the sheet's length and its records
--     call_same                what the word is held to may be wrong where the sheet is
use mathlib.Core.Path.{◌≡◌, refl, sym, ap, ap₂, ◌∙◌}
use Prim.Native.Nat.{ℕ, ◌/◌, ◌^◌}
use mathlib.Core.Bool.{Bool, true, false}
use mathlib.Core.List.{List}
use lib.ListN.{length}
use Rattle.bits.specs.Vectors.{tab}
use Rattle.meaning.specs.Limits.{record_bytes}
use Rattle.meaning.specs.Sheet.{rule_at, rules, frees}
use Rattle.meaning.specs.Answers.{is_done, refuses, fault, sheet_refusals, word_refusals, call_refusals, checking, wording}
use Rattle.meaning.specs.declared.Answer.{Answer}
use Rattle.meaning.specs.declared.Answer.TheVariants.{Done}
use Rattle.meaning.proofs.Refusals.{first_append, first_refused, past_none, tried_refused}
use Rattle.meaning.proofs.Forms.{good, checked-none}
use Rattle.sheet.proofs.Records.{records_in}

-- N and K, as they are read off the sheet's length and its records
pub size_is : (n : ℕ) (s : List ℕ) (r : ℕ) → refuses (sheet_refusals n s r) ≡ false → length s / record_bytes ≡ 2 ^ n
size_is n s r h = records_in (length s) (2 ^ n) (good n s r h).long

pub count-is : (n : ℕ) (s : List ℕ) (r : ℕ) → refuses (sheet_refusals n s r) ≡ false → frees (tab (length s / record_bytes) (rule_at s)) ≡ frees (rules n s)
unfolding rules
count-is n s r h = ap (λ (m : ℕ). frees (tab m (rule_at s))) (size_is n s r h)

module _ (n : ℕ) (s : List ℕ) (r wanted top needed : ℕ) (w : List ℕ) (room : ℕ) where
  module _ (a : Answer) (ea : a ≡ checking n s r) (b : Bool) (eb : b ≡ is_done a) where
    pub call_sheet : b ≡ false → a ≡ fault (call_refusals n s r wanted top needed w room)
    unfolding checking
    call_sheet t = ea ∙ sym (tried_refused (λ (x : Answer). x) (sheet_refusals n s r) _ Done (ap is_done (sym ea) ∙ sym eb ∙ t))

    pub call_word : b ≡ true → (v : Answer) → v ≡ wording wanted top needed w room → v ≡ fault (call_refusals n s r wanted top needed w room)
    unfolding wording
    call_word t v ev = ev ∙ sym (past_none (λ (x : Answer). x) (sheet_refusals n s r) _ Done (checked-none n s r (ap is_done (sym ea) ∙ sym eb ∙ t)))

  pub call_same : (wanted' needed' : ℕ) → (refuses (sheet_refusals n s r) ≡ false → (wanted ≡ wanted') × (needed ≡ needed'))
      → fault (call_refusals n s r wanted top needed w room) ≡ fault (call_refusals n s r wanted' top needed' w room)
  call_same wanted' needed' e = go (refuses (sheet_refusals n s r)) refl
    where
      id : Answer → Answer
      id x = x

      go : (b : Bool) → refuses (sheet_refusals n s r) ≡ b → fault (call_refusals n s r wanted top needed w room) ≡ fault (call_refusals n s r wanted' top needed' w room)
      go true q =
          first_append id (sheet_refusals n s r) (word_refusals wanted top needed w room) Done
          ∙ first_refused id (sheet_refusals n s r) _ (fault (word_refusals wanted' top needed' w room)) q
          ∙ sym (first_append id (sheet_refusals n s r) (word_refusals wanted' top needed' w room) Done)
      go false q = ap₂ (λ (x y : ℕ). fault (call_refusals n s r x top y w room)) (e q).0 (e q).1
