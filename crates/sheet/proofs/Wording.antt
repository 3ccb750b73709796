-- What checking a word answers, refusal by refusal; and the search for the first symbol above the top.
use Rattle.std.proofs.Common.{◌≡◌, refl, ℕ, suc, ◌+◌, ◌<◌, ◌≤◌, arith, Bool, true, false, cond, List, length, Some, None, ltb, nat_lt}
use Rattle.std.specs.List.{position, position_or_len}
use Rattle.std.proofs.lemmas.List.Recursion.{is_position_or_len}
use borrow.Author.Tests.{lt-ltb, le-ltb, eq-eqb, ne_eqb, ltb-true, ltb-false}
use Rattle.bits.specs.Vectors.{pick, first_place}
use Rattle.meaning.specs.Answers.{word_refusals, wording}
use Rattle.meaning.specs.declared.Answer.TheVariants.{Done, BadLength, BadSymbol, ShortOutput}

-- ---- the search

module _ (p : ℕ → Bool) (w : List ℕ) where
  -- the first place is the library's position, or the length where there is none
  place_position : first_place p w ≡ position_or_len p w
  place_position = is_position_or_len (first_place p) p refl (λ x xs. go (p x) (first_place p xs)) w
    where
      go : (b : Bool) (k : ℕ) → pick b 0 (suc k) ≡ cond b 0 (1 + k)
      go true k = refl
      go false k = omega arith

  pub at_some : (i : ℕ) → Some i ≡ position p w → (i ≡ first_place p w) × (i < length w)
  at_some i e = go (nat_lt (position_or_len p w) (length w)) refl e
    where
      go : (b : Bool) → nat_lt (position_or_len p w) (length w) ≡ b → Some i ≡ cond b (Some (position_or_len p w)) None → (i ≡ first_place p w) × (i < length w)
      go true t q = let k : i ≡ position_or_len p w = cc in (cc (place_position), rw k (ltb-true _ _ t))
      go false t q = absurd (cc)

  pub at_none : None ≡ position p w → length w ≤ first_place p w
  at_none e = go (nat_lt (position_or_len p w) (length w)) refl e
    where
      go : (b : Bool) → nat_lt (position_or_len p w) (length w) ≡ b → None ≡ cond b (Some (position_or_len p w)) None → length w ≤ first_place p w
      go true t q = absurd (cc)
      go false t q = rw place_position (ltb-false _ _ t)

-- ---- the refusals

module _ (wanted top needed : ℕ) (w : List ℕ) (room : ℕ) where
  pub not-long : (length w ≡ wanted → ⊥) → BadLength ≡ wording wanted top needed w room
  unfolding wording word_refusals
  not-long e = rw (ne_eqb (length w) wanted e)

  module _ (l : length w ≡ wanted) where
    pub bad_symbol : (place : ℕ) → place ≡ first_place (ltb top) w → place < length w → BadSymbol place ≡ wording wanted top needed w room
    unfolding wording word_refusals
    bad_symbol place p b = rw (eq-eqb (length w) wanted l, ← p, lt-ltb place (length w) b)

    module _ (q : length w ≤ first_place (ltb top) w) where
      pub short : room < needed → ShortOutput ≡ wording wanted top needed w room
      unfolding wording word_refusals
      short h = rw (eq-eqb (length w) wanted l, le-ltb (first_place (ltb top) w) (length w) q, lt-ltb room needed h)

      pub done : needed ≤ room → Done ≡ wording wanted top needed w room
      unfolding wording word_refusals
      done h = rw (eq-eqb (length w) wanted l, le-ltb (first_place (ltb top) w) (length w) q, le-ltb room needed h)
