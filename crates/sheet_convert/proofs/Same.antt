-- A widened sheet is the same code, in any two layouts of which the second is the wider.
--     same-frees     K, the number of free positions, is the same
--     same_code      the codewords are the same, in the same order, with any r
--     same_payload   every codeword carries the same payload
--     same_agreeing, same-unknowns, same-equations     of any word: the agreeing codewords, g and m are the same
--     same_check     the check says of it, with any r, what the old check says of the old sheet
use mathlib.Core.Path.{◌≡◌, refl, ap, ap₂, ◌∙◌}
use Prim.Native.Nat.{ℕ, zero, suc, ◌+◌, ◌*◌, ◌-◌, ◌^◌, ◌≤◌}
use native.Mathlib.Omega.{arith}
use mathlib.Core.Bool.{Bool, false, ◌&&◌, not}
use mathlib.Core.List.{List, [], ◌∷◌, ◌++◌, map}
use lib.ListN.{length, take}
use borrow.Author.Tests.{le-ltb, eq-eqb}
use Rattle.bits.specs.Vectors.{◌⊕◌, tab, filter, keep, odd, ones, all_bits}
use Rattle.meaning.specs.Limits.{Layout, leads}
use Rattle.meaning.specs.Transform.{polar}
use Rattle.meaning.specs.Sheet.{Rule, free, frozen, rule_in, rules_in, frees}
use Rattle.meaning.specs.Check.{keeps_rules, free_bits, divides, keeps}
use Rattle.meaning.specs.Codewords.{codewords, agrees, candidates, payload_of}
use Rattle.meaning.specs.Open.{open_free, closed_frozen, open_all, unknowns, equations}
use Rattle.meaning.specs.Answers.{checking_in}
use Rattle.sheet_convert.specs.Conversion.{widened}
use Rattle.sheet_convert.proofs.Widening.{Wider, grown, grown_rule, more, new-long, new-rules, new_bad}

-- ---- rules with grown masks

odd_grown : (m : List Bool) (k : ℕ) (u : List Bool) → odd (grown k m) u ≡ odd m u
odd_grown [] zero u = refl
odd_grown [] (suc k) [] = refl
odd_grown [] (suc k) (b ∷ u) = odd_grown [] k u
odd_grown (a ∷ m) k [] = refl
odd_grown (a ∷ m) k (b ∷ u) = ap (λ (x : Bool). (a && b) ⊕ x) (odd_grown m k u)

module _ (k : ℕ) where
  keeps_grown : (ks : List Rule) (u v : List Bool) → keeps_rules (map (grown_rule k) ks) u v ≡ keeps_rules ks u v
  keeps_grown [] u v = refl
  keeps_grown (x ∷ ks) u [] = refl
  keeps_grown (free ∷ ks) u (b ∷ v) = keeps_grown ks u v
  keeps_grown (frozen c m ∷ ks) u (b ∷ v) = ap₂ (λ (x y : Bool). not (b ⊕ (c ⊕ x)) && y) (odd_grown m k u) (keeps_grown ks u v)

  free_grown : (ks : List Rule) (v : List Bool) → free_bits (map (grown_rule k) ks) v ≡ free_bits ks v
  free_grown [] v = refl
  free_grown (x ∷ ks) [] = refl
  free_grown (free ∷ ks) (b ∷ v) = ap {B = List Bool} (λ t. b ∷ t) (free_grown ks v)
  free_grown (frozen c m ∷ ks) (b ∷ v) = free_grown ks v

  frees_grown : (ks : List Rule) → frees (map (grown_rule k) ks) ≡ frees ks
  frees_grown [] = refl
  frees_grown (free ∷ ks) = ap suc (frees_grown ks)
  frees_grown (frozen c m ∷ ks) = frees_grown ks

  open_grown : (ks : List Rule) (o : List Bool) → open_free (map (grown_rule k) ks) o ≡ open_free ks o
  open_grown [] o = refl
  open_grown (x ∷ ks) [] = refl
  open_grown (free ∷ ks) (b ∷ o) = ap {B = List Bool} (λ t. b ∷ t) (open_grown ks o)
  open_grown (frozen c m ∷ ks) (b ∷ o) = ap {B = List Bool} (λ t. false ∷ t) (open_grown ks o)

  closed_grown : (ks : List Rule) (o : List Bool) → closed_frozen (map (grown_rule k) ks) o ≡ closed_frozen ks o
  closed_grown [] o = refl
  closed_grown (x ∷ ks) [] = refl
  closed_grown (free ∷ ks) (b ∷ o) = ap {B = List Bool} (λ t. false ∷ t) (closed_grown ks o)
  closed_grown (frozen c m ∷ ks) (b ∷ o) = ap {B = List Bool} (λ t. not b ∷ t) (closed_grown ks o)

  keeps_same : (ks : List Rule) (r : ℕ) (u : List Bool) → keeps (map (grown_rule k) ks) r u ≡ keeps ks r u
  unfolding keeps
  keeps_same ks r u = ap₂ (λ (x : Bool) (f : List Bool). x && divides r (leads r ++ f)) (keeps_grown ks u u) (free_grown ks u)

  map-tab : (n : ℕ) (f : ℕ → Rule) → tab n (λ (i : ℕ). grown_rule k (f i)) ≡ map (grown_rule k) (tab n f)
  map-tab zero f = refl
  map-tab (suc n) f = ap {B = List Rule} (λ t. grown_rule k (f 0) ∷ t) (map-tab n (λ (i : ℕ). f (suc i)))

filter_same : {A : Type 0} (p q : A → Bool) → ((a : A) → p a ≡ q a) → (l : List A) → filter p l ≡ filter q l
filter_same p q h [] = refl
filter_same {A} p q h (a ∷ l) = ap₂ {C = List A} (λ b t. keep b a t) (h a) (filter_same p q h l)

-- ---- the sheet

module _ {L M : Layout} (W : Wider L M) (n : ℕ) (s : List ℕ) where
  abbrev ks : List Rule
  ks = rules_in L n s

  grown_rules : rules_in M n (widened L M n s) ≡ map (grown_rule (more L M)) ks
  unfolding rules_in
  grown_rules = new-rules W n s ∙ map-tab (more L M) (2 ^ n) (rule_in L s)

  pub same-frees : frees (rules_in M n (widened L M n s)) ≡ frees (rules_in L n s)
  same-frees = ap frees grown_rules ∙ frees_grown (more L M) ks

  pub same_code : (r : ℕ) → codewords n (rules_in M n (widened L M n s)) r ≡ codewords n (rules_in L n s) r
  unfolding codewords
  same_code r =
      ap (map (polar n))
      (ap (λ (k : List Rule). filter (keeps k r) (all_bits (2 ^ n))) grown_rules
      ∙ filter_same (keeps (map (grown_rule (more L M)) ks) r) (keeps ks r) (keeps_same (more L M) ks r) (all_bits (2 ^ n)))

  pub same_payload : (r : ℕ) (x : List Bool) → payload_of n (rules_in M n (widened L M n s)) r x ≡ payload_of n (rules_in L n s) r x
  unfolding payload_of
  same_payload r x =
      ap₂ (λ (k : ℕ) (f : List Bool). take (k - r) f) same-frees (ap (λ (rs : List Rule). free_bits rs (polar n x)) grown_rules ∙ free_grown (more L M) ks (polar n x))

  -- of any word
  module _ (w : List ℕ) where
    pub same_agreeing : (r : ℕ) → candidates n (rules_in M n (widened L M n s)) r w ≡ candidates n (rules_in L n s) r w
    unfolding candidates
    same_agreeing r = ap (filter (agrees w)) (same_code r)

    pub same-unknowns : unknowns n (rules_in M n (widened L M n s)) w ≡ unknowns n (rules_in L n s) w
    unfolding unknowns
    same-unknowns = ap ones (ap (λ (rs : List Rule). open_free rs (open_all n w)) grown_rules ∙ open_grown (more L M) ks (open_all n w))

    pub same-equations : (r : ℕ) → equations n (rules_in M n (widened L M n s)) r w ≡ equations n (rules_in L n s) r w
    unfolding equations
    same-equations r = ap (λ (o : List Bool). ones o + r) (ap (λ (rs : List Rule). closed_frozen rs (open_all n w)) grown_rules ∙ closed_grown (more L M) ks (open_all n w))

  module _ (small : n ≤ L.largest) (long : length s ≡ 2 ^ n * L.bytes) where
    few : n ≤ M.largest
    few = omega arith

    pub same_check : (r : ℕ) → checking_in M n (widened L M n s) r ≡ checking_in L n s r
    unfolding checking_in
    same_check r =
        rw (
          le-ltb M.largest n few,
          eq-eqb (length (widened L M n s)) (2 ^ n * M.bytes) (new-long W n s),
          new_bad W n s small,
          same-frees,
          le-ltb L.largest n small,
          eq-eqb (length s) (2 ^ n * L.bytes) long,
        )
