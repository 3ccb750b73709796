-- What an input is answered by.
--     none_shape, none_choice, some_terms     the agreement, case by case, for the n that the code finds
--     Agreed, agreed_terms                    what is known of the terms
--     refused_by                              what is known where there are none
--     refused_alone, one_refused              there one record alone is given
--     counted_terms                           with terms, one for each word
use mathlib.Core.Path.{◌≡◌, refl, sym, ap}
use Prim.Native.Nat.{ℕ, ◌^◌, ◌≤◌, ◌<◌}
use mathlib.Core.Bool.{Bool, true, false, not}
use mathlib.Core.List.{List, [], ◌∷◌}
use lib.ListN.{length, get_or}
use lib.Dec.{eqb, ltb}
use borrow.Author.Tests.{eq-eqb, ne_eqb, lt-ltb, le-ltb, ltb-true, ltb-false, eqb-true, eqb-false}
use Rattle.std.specs.Prelude.{Result, Ok, Err}
use Rattle.bits.specs.Vectors.{pick}
use Rattle.meaning.specs.Limits.{largest_n}
use Rattle.meaning.specs.Stream.{n_of, rounded_up, refused_record, records}
use Rattle.meaning.specs.Results.{refusal}
use Rattle.meaning.specs.declared.Refused.{Refused}
use Rattle.meaning.specs.declared.Refused.TheVariants.{BadShape, BadCheck}
use Rattle.stream.specs.declared.Terms.{Terms}
use Rattle.stream.specs.Agreement.{agreement}
use Rattle.stream.proofs.Counting.{records_shape, records_choice, counted}

module _ (s ch : List ℕ) where
  -- ---- the agreement, for the n that the code finds

  module _ (n : ℕ) (e : n ≡ n_of s) where
    pub none_shape : largest_n < n → Err BadShape ≡ agreement s ch
    unfolding agreement
    none_shape h = sym (rw (lt-ltb largest_n (n_of s) (rw (← e) h)) refl)

    module _ (h : n ≤ largest_n) where
      pub none_choice : (length ch ≡ 2 → ⊥) → Err BadCheck ≡ agreement s ch
      unfolding agreement
      none_choice q = sym (rw (le-ltb largest_n (n_of s) (rw (← e) h), ne_eqb (length ch) 2 q) refl)

      pub some_terms : length ch ≡ 2 → (r c : ℕ) → r ≡ get_or ch 0 0 → c ≡ get_or ch 1 0 → Ok (record { n = n; r = r; ceiling = c }) ≡ agreement s ch
      unfolding agreement
      some_terms q r c er ec = rw (er, ec, e) (sym (rw (le-ltb largest_n (n_of s) (rw (← e) h), eq-eqb (length ch) 2 q) refl))

  -- ---- what is known of the terms

  pub record Agreed (t : Terms) : Type 0 where
    pub small : t.n ≤ largest_n
    pub two : length ch ≡ 2
    pub n-is : t.n ≡ n_of s
    pub r-is : t.r ≡ get_or ch 0 0
    pub ceiling-is : t.ceiling ≡ get_or ch 1 0

  abbrev set_terms : Terms
  set_terms = record { n = n_of s; r = get_or ch 0 0; ceiling = get_or ch 1 0 }

  abbrev case : Bool → Bool → Result Terms Refused
  case b d = pick b (Err BadShape) (pick (not d) (Err BadCheck) (Ok set_terms))

  pub agreed_terms : (t : Terms) → Ok t ≡ agreement s ch → Agreed t
  unfolding agreement
  agreed_terms t h = go (ltb largest_n (n_of s)) (eqb (length ch) 2) refl refl h
    where
      go : (b d : Bool) → ltb largest_n (n_of s) ≡ b → eqb (length ch) 2 ≡ d → Ok t ≡ case b d → Agreed t
      go true d eb ed q = let no : ⊥ = cc in absurd no
      go false false eb ed q = let no : ⊥ = cc in absurd no
      go false true eb ed q =
          let e : t ≡ set_terms = cc in
          record {
            small = rw e (ltb-false largest_n (n_of s) eb);
            two = eqb-true (length ch) 2 ed;
            n-is = ap (λ (x : Terms). x.n) e;
            r-is = ap (λ (x : Terms). x.r) e;
            ceiling-is = ap (λ (x : Terms). x.ceiling) e;
          }

  -- where there are none, the sheet has no n, or the choice is not two bytes
  pub refused_by : (P : Refused → Type 0) → (largest_n < n_of s → P BadShape) → (n_of s ≤ largest_n → (length ch ≡ 2 → ⊥) → P BadCheck) → (e : Refused) → Err e ≡ agreement s ch → P e
  unfolding agreement
  refused_by P f g e h = go (ltb largest_n (n_of s)) (eqb (length ch) 2) refl refl h
    where
      go : (b d : Bool) → ltb largest_n (n_of s) ≡ b → eqb (length ch) 2 ≡ d → Err e ≡ case b d → P e
      go true d eb ed q = let k : e ≡ BadShape = cc in rw k (f (ltb-true largest_n (n_of s) eb))
      go false false eb ed q = let k : e ≡ BadCheck = cc in rw k (g (ltb-false largest_n (n_of s) eb) (eqb-false (length ch) 2 ed))
      go false true eb ed q = let no : ⊥ = cc in absurd no

  -- ---- the records

  module _ (input : List ℕ) where
    pub refused_alone : (e : Refused) → Err e ≡ agreement s ch → records s ch input ≡ refused_record (refusal e) ∷ []
    refused_alone = refused_by (λ e. records s ch input ≡ refused_record (refusal e) ∷ []) (records_shape s ch input) (records_choice s ch input)

    pub one_refused : (e : Refused) → Err e ≡ agreement s ch → 1 ≡ length (records s ch input)
    one_refused e h = sym (ap length (refused_alone e h))

    pub counted_terms : (t : Terms) → Agreed t → (size : ℕ) → size ≡ 2 ^ t.n → (k : ℕ) → k ≡ rounded_up (length input) size → k ≡ length (records s ch input)
    counted_terms t a size es k ek = counted s ch input t.n a.n-is a.small a.two size es k ek
