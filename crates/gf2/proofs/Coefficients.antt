-- Whether a row has a coefficient, as the code finds it.
--     nonzero, led_is     the test of one word; one of the first c words passes it
use mathlib.Core.Path.{◌≡◌, refl, sym, ◌∙◌}
use mathlib.Core.Logic.{⊎_elim}
use Prim.Native.Nat.{ℕ, suc, ◌^◌, ◌≤◌, ◌<◌}
use native.Mathlib.Omega.{arith}
use mathlib.Core.Bool.{Bool, true, false, not, true≢false}
use mathlib.Core.List.{List, [], ◌∷◌}
use lib.ListN.{length, take, get_or, get_or-eq_default, length-take}
use lib.Seq.{get_or-take}
use lib.Dec.{eqb}
use borrow.Author.Tests.{eq-eqb, ne_eqb}
use Rattle.std.specs.List.{list_any}
use Rattle.std.proofs.lemmas.List.Folds.{list_any_at}
use Rattle.bits.specs.Rows.{Row}
use Rattle.bits.proofs.Tests.{eq_or_ne, le_or_lt}
use Rattle.gf2.specs.Solve.{lead}
use Rattle.gf2.specs.System.{led}
use Rattle.gf2.proofs.Reduced.{no_words, zero-words}

abbrev pub nonzero : ℕ → Bool
nonzero a = not (eqb a 0)

-- no word passes
none_passes : (x : List ℕ) → ((k : ℕ) → k < length x → get_or x k 0 ≡ 0) → list_any nonzero x ≡ false
none_passes [] h = refl
none_passes (a ∷ x) h = rw (eq-eqb a 0 (h 0 (omega arith))) (none_passes x (λ k l. h (suc k) (omega arith)))

module _ (c : ℕ) (x : Row) (fit : (k : ℕ) → get_or x k 0 < 2 ^ 64) where
  word : (k : ℕ) → k < c → get_or (take c x) k 0 ≡ get_or x k 0
  word k h = get_or-take c x k 0 h

  pub led_is : list_any nonzero (take c x) ≡ led c x
  led_is = go (list_any nonzero (take c x)) refl
    where
      -- a word of those that is not 0 would pass
      blank : list_any nonzero (take c x) ≡ false → (k : ℕ) → k < c → k < length (take c x) → get_or x k 0 ≡ 0
      blank e k h l = ⊎_elim (λ q. q)
          (λ n. absurd (true≢false (sym (list_any_at nonzero (take c x) k 0 l (rw (word k h, ne_eqb (get_or x k 0) 0 n) refl)) ∙ e)))
          (eq_or_ne (get_or x k 0) 0)

      go : (b : Bool) → list_any nonzero (take c x) ≡ b → b ≡ led c x
      go false e =
          rw (eq-eqb (lead c x) 0 (zero-words c x (λ k h. ⊎_elim (λ (q : length x ≤ k). get_or-eq_default x 0 (omega arith))
          (λ (q : k < length x). blank e k h (rw length-take (omega arith))) (le_or_lt (length x) k)))) refl
      go true e = ⊎_elim
          (λ q. absurd (true≢false (sym e ∙ none_passes (take c x) (λ k l. let n : k < c = omega (arith, length-take {A = ℕ}) in word k n ∙ no_words c x q k n (fit k)))))
          (λ n. rw (ne_eqb (lead c x) 0 n) refl)
          (eq_or_ne (lead c x) 0)
