-- A higher ceiling, up to its limit, of `decoding`: c' is c or more.
--     lowered     a lower ceiling changes nothing, or the answer to 18, with the buffer as found
--     raised      so a higher one changes no answer other than 18, neither its counts nor its bytes
--     enough      18 names the least ceiling that suffices
use mathlib.Core.Path.{◌≡◌, refl, sym, ap, ◌∙◌}
use mathlib.Core.Logic.{◌⊎◌, inl, inr, ⊎_elim, ◌↔◌}
use Prim.Native.Nat.{ℕ, ◌≤◌, ◌<◌}
use native.Mathlib.Omega.{arith}
use mathlib.Core.Bool.{Bool, true, false}
use mathlib.Core.List.{List}
use lib.ListN.{length}
use borrow.Author.Tests.{le-ltb}
use Rattle.bits.proofs.Tests.{le_or_lt}
use Rattle.meaning.specs.Limits.{largest_ceiling}
use Rattle.meaning.specs.Sheet.{rules}
use Rattle.meaning.specs.Open.{unknowns}
use Rattle.meaning.specs.Answers.{Refusal, first_of, refuses, form_refusals, Reply, leaving, decoding}
use Rattle.meaning.specs.declared.Answer.TheVariants.{TooMany}
use Rattle.meaning.proofs.Refusals.{first_refused}
use Rattle.meaning.proofs.Demands.{decided, by_form, over, under, over_iff}
use Rattle.planning.specs.MoreKnown.{code_of, g_of, formed}
use Rattle.planning.proofs.Known.{numbers, formed-none, g_answered}

module _ (n : ℕ) (s : List ℕ) (r c c' : ℕ) (w out : List ℕ) (up : c ≤ c') where
  abbrev g : ℕ
  g = unknowns n (rules n s) w

  same_form : c' ≤ largest_ceiling → form_refusals n s r c w (length out) ≡ form_refusals n s r c' w (length out)
  unfolding form_refusals
  same_form limit = rw (le-ltb largest_ceiling c (omega arith), le-ltb largest_ceiling c' limit)

  pub lowered : c' ≤ largest_ceiling → (decoding n s r c w out ≡ decoding n s r c' w out) ⊎ ((decoding n s r c w out ≡ leaving out (TooMany g)) × (c < g))
  lowered limit = go (refuses (form_refusals n s r c w (length out))) refl
    where
      go : (b : Bool) → refuses (form_refusals n s r c w (length out)) ≡ b → (decoding n s r c w out ≡ decoding n s r c' w out) ⊎ ((decoding n s r c w out ≡ leaving out (TooMany g)) × (c < g))
      go true e =
          inl (by_form n s r c w out ∙ first_refused (leaving out) (form_refusals n s r c w (length out)) (decided n s r c w out) (decided n s r c' w out) e ∙ ap (λ (ts : List Refusal). first_of (leaving out) ts (decided n s r c' w out)) (same_form limit)
          ∙ sym (by_form n s r c' w out))
      go false e =
          ⊎_elim
          (λ (k : g ≤ c). inl (under n s r c w out e k ∙ sym (under n s r c' w out (rw (← same_form limit) e) (omega arith))))
          (λ k. inr (over n s r c w out e k, k))
          (le_or_lt g c)

  pub raised : (limit : c' ≤ largest_ceiling) → (code_of (numbers (decoding n s r c w out)) ≡ 18 → ⊥) → decoding n s r c' w out ≡ decoding n s r c w out
  raised limit h = ⊎_elim sym (λ (e, k). absurd (h (ap (λ (t : Reply). code_of (numbers t)) e))) (lowered limit)

  pub enough : c' ≤ largest_ceiling → code_of (numbers (decoding n s r c w out)) ≡ 18 → (code_of (numbers (decoding n s r c' w out)) ≡ 18) ↔ (c' < g_of (numbers (decoding n s r c w out)))
  enough limit h =
      let ok : formed (numbers (decoding n s r c w out)) ≡ true = rw h in
      rw (g_answered n s r c w out ok) (over_iff n s r c' w out (rw (← same_form limit) (formed-none n s r c w out ok)))
