-- From a whole word to its payload, in the values that the code has.
--     unsent              the vector behind a word
--     nothing, something  what is left in the output
--     broken, held        whether it keeps the rules: it is the vector that they give for its own free bits
--     lent, compared      the comparison with the vector that the rules give
use mathlib.Core.Path.{◌≡◌, refl, sym, ap, ap₂, ◌∙◌, subst}
use Prim.Native.Nat.{ℕ, zero, suc, ◌-◌, ◌*◌, ◌^◌, ◌≤◌}
use native.Mathlib.Omega.{arith}
use mathlib.Core.Bool.{Bool, true, false, ◌&&◌, true≢false}
use mathlib.Core.List.{List, [], ◌∷◌, ◌++◌, map}
use lib.ListN.{replicate, length-replicate, length, take, drop, length-map, length-take}
use lib.Dec.{eqb}
use Rattle.std.specs.Prelude.{IsTrue, ◌↔◌}
use Rattle.std.specs.Cmp.Lexicographic.{pointwise}
use Rattle.std.proofs.lemmas.Bool.Decides.{Decides-eqb}
use Rattle.std.proofs.lemmas.Slice.Eq.{slice_eq-Decides}
use Rattle.bits.specs.Vectors.{bit, tab}
use Rattle.bits.proofs.Tests.{length-tab}
use Rattle.meaning.specs.Limits.{mask_bytes, leads}
use Rattle.meaning.specs.Transform.{polar}
use Rattle.meaning.specs.Sheet.{Rule, rule_at, rules}
use Rattle.meaning.specs.Check.{keeps_rules, free_bits, divides, keeps}
use Rattle.meaning.specs.Payload.{place}
use Rattle.meaning.specs.Answers.{is_one}
use Rattle.meaning.proofs.Polar.{length-polar}
use Rattle.meaning.proofs.Encode.{length-free, keeps-place, place_unique}
use Rattle.meaning.proofs.ReadBack.{ones_back}
use Rattle.polar.specs.Bytes.{transformed}
use Rattle.polar.proofs.Transforming.{transformed-is, polar-bytes}
use Rattle.division.specs.Division.{dividing}
use Rattle.division.proofs.Checking.{known-listed, dividing-is}
use Rattle.codec.specs.Ready.{AreBits, Placeable, Whole, Extracted}
use Rattle.codec.proofs.Sending.{bits_are}

-- ---- what is lent of an output, and of a room for all positions

pub taken_for : (k : ℕ) (l : List ℕ) → k ≤ length l → length (take k l) ≡ k
taken_for k l h = simp length-take (omega arith)

pub room_for : (k : ℕ) → k ≤ 8 * mask_bytes → length (take k (replicate {A = ℕ} (8 * mask_bytes) 0)) ≡ k
room_for k h = taken_for k (replicate (8 * mask_bytes) 0) (rw length-replicate h)

pub low_in_room : (m k r : ℕ) → m ≡ k - r → k ≤ 8 * mask_bytes → m ≤ length (take k (replicate {A = ℕ} (8 * mask_bytes) 0))
low_in_room m k r e h = omega (arith, room_for k h)

-- ---- bits

take-map : {A B : Type 0} (f : A → B) (i : ℕ) (l : List A) → take i (map f l) ≡ map f (take i l)
take-map f zero l = refl
take-map f (suc i) [] = refl
take-map {B = B} f (suc i) (x ∷ l) = ap {B = List B} (λ t. f x ∷ t) (take-map f i l)

-- ---- the vector behind a word

pub unsent : (n : ℕ) (w : List ℕ) → AreBits w → length w ≡ 2 ^ n → transformed n w ≡ map bit (polar n (map is_one w))
unsent n w a lw =
    let lo : length (map is_one w) ≡ 2 ^ n = length-map w is_one ∙ lw in
    ap (transformed n) (sym a) ∙ transformed-is n (map bit (map is_one w)) (length-map (map is_one w) bit ∙ lo) ∙ polar-bytes n (map is_one w) lo

-- u, the vector behind a word, as bytes
module _ (n : ℕ) (s : List ℕ) (w u : List ℕ) (lw : length w ≡ 2 ^ n) (e : u ≡ map bit (polar n (map is_one w))) where
  pub length_u : length u ≡ 2 ^ n
  length_u = ap length e ∙ length-map (polar n (map is_one w)) bit ∙ length-polar n (map is_one w) (length-map w is_one ∙ lw)

  back : map is_one u ≡ polar n (map is_one w)
  back = ap (map is_one) e ∙ ones_back (polar n (map is_one w))

  pub rules_u : tab (length u) (rule_at s) ≡ rules n s
  unfolding rules
  rules_u = ap (λ (m : ℕ). tab m (rule_at s)) length_u

  module _ (r m : ℕ) (out : List ℕ) (b : Bool) (eb : b ≡ keeps (tab (length u) (rule_at s)) r (map is_one u)) where
    tells : b ≡ keeps (rules n s) r (polar n (map is_one w))
    tells = eb ∙ ap₂ (λ (l : List Rule) (x : List Bool). keeps l r x) rules_u back

    pub nothing : b ≡ false → Extracted n s r w m out out b
    nothing t = record { tells = tells; leaves = rw t }

    pub something : b ≡ true → (f out' : List ℕ) → f ≡ map bit (free_bits (tab (length u) (rule_at s)) (map is_one u)) → out' ≡ take m f ++ drop m out → Extracted n s r w m out out' b
    something t f out' ef eo =
        let fb : List Bool = free_bits (rules n s) (polar n (map is_one w)) in
        let es : take m f ≡ map bit (take m fb) = ap (take m) (ef ∙ ap₂ (λ (l : List Rule) (x : List Bool). map bit (free_bits l x)) rules_u back) ∙ take-map bit m fb in
        record { tells = tells; leaves = rw t (eo ∙ ap {B = List ℕ} (λ x. x ++ drop m out) es) }

-- ---- whether it keeps the rules

module _ (s : List ℕ) (r : ℕ) (u : List ℕ) (k : ℕ) (ok : Whole s r u k) where
  abbrev ks : List Rule
  ks = tab (length u) (rule_at s)

  abbrev us : List Bool
  us = map is_one u

  length-us : length us ≡ length ks
  length-us = length-map u is_one ∙ sym (length-tab (length u) (rule_at s))

  module _ (f : List ℕ) (ef : f ≡ map bit (free_bits ks us)) where
    frees_back : map is_one f ≡ free_bits ks us
    frees_back = ap (map is_one) ef ∙ ones_back (free_bits ks us)

    pub free-bits : AreBits f
    free-bits = subst (λ (l : List ℕ). AreBits l) (sym ef) (bits_are (free_bits ks us))

    pub place_again : Placeable s (length u) f
    place_again = record { long = ok.long; within = ok.within; bits = free-bits; count = ap length ef ∙ length-map (free_bits ks us) bit ∙ length-free ks us length-us }

    -- b tells whether the free bits give the vector again
    module _ (b : Bool) (tell : IsTrue b ↔ (u ≡ map bit (place ks [] (map is_one f)))) where
      again : map bit (place ks [] (map is_one f)) ≡ map bit (place ks [] (free_bits ks us))
      again = ap (λ (x : List Bool). map bit (place ks [] x)) frees_back

      -- another vector: a rule is broken
      pub broken : b ≡ false → false ≡ keeps ks r us
      unfolding keeps
      broken e = go (keeps_rules ks us us) refl
        where
          go : (t : Bool) → keeps_rules ks us us ≡ t → false ≡ t && divides r (leads r ++ free_bits ks us)
          go true q = absurd (true≢false (sym (tell.1 (sym ok.bits ∙ ap (map bit) (place_unique ks [] us ok.ordered length-us q) ∙ sym again)) ∙ e))
          go false q = refl

      -- the same vector: every rule is kept, and the check decides
      pub held : b ≡ true → (d : Bool) → d ≡ dividing r f → d ≡ keeps ks r us
      unfolding keeps
      held e d ed =
          let same : us ≡ place ks [] (free_bits ks us) = ap (map is_one) (tell.0 e ∙ again) ∙ ones_back (place ks [] (free_bits ks us)) in
          let kept : keeps_rules ks us us ≡ true = subst (λ (x : List Bool). keeps_rules ks x x ≡ true) (sym same) (keeps-place ks [] (free_bits ks us) ok.ordered) in
          rw kept (ed ∙ dividing-is r f (known-listed r ok.check) ∙ ap (λ (x : List Bool). divides r (leads r ++ x)) frees_back)

-- ---- the comparison, with a part l of the room as long as u

module _ (s f u l : List ℕ) (el : length l ≡ length u) where
  pub lent : Placeable s (length u) f → Placeable s (length l) f
  lent h = rw el h

  -- x is written there
  pub compared : (x : List ℕ) → x ≡ map bit (place (tab (length l) (rule_at s)) [] (map is_one f)) → (b : Bool) → b ≡ pointwise eqb u x
      → IsTrue b ↔ (u ≡ map bit (place (tab (length u) (rule_at s)) [] (map is_one f)))
  compared x ex b eb = rw (ex ∙ ap (λ (m : ℕ). map bit (place (tab m (rule_at s)) [] (map is_one f))) el) at (slice_eq-Decides Decides-eqb u x b eb)
