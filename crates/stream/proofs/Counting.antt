-- How many records an input gets.
--     records_shape, records_choice, records-words     the records, case by case
--     one_shape, one_choice, counted                   how many there are
use mathlib.Core.Path.{◌≡◌, sym, ap, ◌∙◌}
use Prim.Native.Nat.{ℕ, ◌^◌, ◌≤◌, ◌<◌}
use mathlib.Core.List.{List, [], ◌∷◌}
use lib.ListN.{length, get_or}
use borrow.Author.Tests.{eq-eqb, ne_eqb, lt-ltb, le-ltb}
use Rattle.bits.specs.Vectors.{tab}
use Rattle.bits.proofs.Tests.{length-tab}
use Rattle.meaning.specs.Limits.{largest_n}
use Rattle.meaning.specs.Stream.{n_of, rounded_up, word_at, answer_record, refused_record, records}
use Rattle.meaning.specs.declared.Answer.TheVariants.{BadShape, BadCheck}

-- ---- the records, case by case

module _ (s ch input : List ℕ) where
  pub records_shape : largest_n < n_of s → records s ch input ≡ refused_record BadShape ∷ []
  unfolding records
  records_shape h = rw (lt-ltb largest_n (n_of s) h)

  pub records_choice : n_of s ≤ largest_n → (length ch ≡ 2 → ⊥) → records s ch input ≡ refused_record BadCheck ∷ []
  unfolding records
  records_choice h e = rw (le-ltb largest_n (n_of s) h, ne_eqb (length ch) 2 e)

  pub records-words : n_of s ≤ largest_n → length ch ≡ 2
      → records s ch input ≡ tab (rounded_up (length input) (2 ^ n_of s)) (λ (k : ℕ). answer_record (n_of s) s (get_or ch 0 0) (get_or ch 1 0) (word_at (n_of s) input k))
  unfolding records
  records-words h e = rw (le-ltb largest_n (n_of s) h, eq-eqb (length ch) 2 e)

  -- how many there are, for the n that the code finds
  module _ (n : ℕ) (e : n ≡ n_of s) where
    pub one_shape : largest_n < n → 1 ≡ length (records s ch input)
    one_shape h = sym (ap length (records_shape (rw (← e) h)))

    module _ (h : n ≤ largest_n) where
      pub one_choice : (length ch ≡ 2 → ⊥) → 1 ≡ length (records s ch input)
      one_choice q = sym (ap length (records_choice (rw (← e) h) q))

      pub counted : length ch ≡ 2 → (size : ℕ) → size ≡ 2 ^ n → (k : ℕ) → k ≡ rounded_up (length input) size → k ≡ length (records s ch input)
      counted q size es k ek =
          ek ∙ ap (rounded_up (length input)) (es ∙ ap (λ (j : ℕ). 2 ^ j) e) ∙ sym (ap length (records-words (rw (← e) h) q) ∙ length-tab (rounded_up (length input) (2 ^ n_of s)) _)
