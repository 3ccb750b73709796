-- The loops over positions: the vector that the rules give, and the free bits of a vector.
--     Placing          what is known when i positions are placed
--     free_goes, frozen_goes, placed      one position more, by its record; all of them
--     Taking           what is known when the free bits of i positions are taken
--     free_taken, frozen_passed, taken    one position more; all of them
use mathlib.Core.Path.{◌≡◌, refl, sym, ap, ap₂, ◌∙◌}
use Prim.Native.Nat.{ℕ, zero, suc, ◌+◌, ◌*◌, ◌<◌, ◌≤◌}
use native.Mathlib.Omega.{arith}
use native.Mathlib.Numerals.{add-one}
use mathlib.Core.Bool.{Bool, true, false}
use mathlib.Core.List.{List, [], ◌∷◌, ◌++◌, map, map-append, append_assoc, append-nil}
use lib.ListN.{length, take, drop, get_or, set, replicate, length-set, length-map, length-take, length-replicate, drop_of_length-le}
use lib.Seq.{drop-cons, take-suc-set, take_all}
use lib.Dec.{eqb}
use Rattle.std.specs.Prelude.{Option, Some, None, MatchOption, IsSome}
use Rattle.bits.specs.Vectors.{◌⊕◌, bit, tab, odd}
use Rattle.bits.proofs.Tests.{length-tab}
use Rattle.meaning.specs.Limits.{mask_bytes}
use Rattle.meaning.specs.Sheet.{byte, mask, Rule, rule_at, frees}
use Rattle.meaning.specs.Check.{free_bits}
use Rattle.meaning.specs.Payload.{place}
use Rattle.meaning.specs.Answers.{is_one}
use Rattle.division.proofs.Division.{bit-small}
use Rattle.sheet.specs.Masks.{mask_words}
use Rattle.sheet.proofs.Records.{rule_free, rule_frozen, rules-at, frees-free, frees-frozen}
use Rattle.codec.specs.Packed.{held, Holds, put}
use Rattle.codec.specs.Ready.{AreBits}
use Rattle.codec.proofs.Packing.{holds-none, put-length, holds_more, odd-held}

-- ---- bytes that are bits

get_or_map : {A B : Type 0} (f : A → B) (l : List A) (i : ℕ) (a : A) → get_or (map f l) i (f a) ≡ f (get_or l i a)
get_or_map f [] i a = refl
get_or_map f (x ∷ l) zero a = refl
get_or_map f (x ∷ l) (suc i) a = get_or_map f l i a

is-bit : (l : List ℕ) (i : ℕ) → AreBits l → i < length l → get_or l i 0 ≡ bit (is_one (get_or l i 0))
is-bit l i a h = ap (λ (m : List ℕ). get_or m i 0) (sym a) ∙ get_or_map bit (map is_one l) i false ∙ ap bit (get_or_map is_one l i 0)

module _ (s : List ℕ) (size : ℕ) where
  abbrev ks : List Rule
  ks = tab size (rule_at s)

  -- ---- the vector that the rules give

  module _ (f : List ℕ) where
    pub record Placing (u v rest : List ℕ) (i : ℕ) : Type 0 where
      pub low : i ≤ size
      pub long : length u ≡ size
      pub wide : length v ≡ mask_words
      pub bits : AreBits (take i u)
      pub holds : Holds v (map is_one (take i u))
      pub ones : AreBits rest
      pub room : frees (drop i ks) ≡ length rest
      pub left : map is_one (take i u) ++ place (drop i ks) (map is_one (take i u)) (map is_one rest) ≡ place ks [] (map is_one f)

    pub starts : (u v rest : List ℕ) → length u ≡ size → v ≡ replicate mask_words 0 → rest ≡ f → AreBits f → length f ≡ frees ks → Placing u v rest 0
    starts u v rest l ev er a e = record {
      low = omega arith;
      long = l;
      wide = ap length ev ∙ length-replicate mask_words 0;
      bits = refl;
      holds = rw ev (holds-none mask_words);
      ones = rw er a;
      room = rw er (sym e);
      left = rw er;
    }

    module _ (u v rest : List ℕ) (i : ℕ) (h : i < size) (p : Placing u v rest i) where
      abbrev c : List Bool
      c = map is_one (take i u)

      length_c : length c ≡ i
      length_c = length-map (take i u) is_one ∙ simp length-take (omega (arith, p.long))

      -- the value x of a bit b at position i, with what is left
      goes : size ≤ 8 * mask_bytes → (x : ℕ) (b : Bool) (rest' : List ℕ) → x ≡ bit b → place (drop i ks) c (map is_one rest) ≡ b ∷ place (drop (suc i) ks) (c ++ (b ∷ [])) (map is_one rest')
          → AreBits rest' → frees (drop (suc i) ks) ≡ length rest' → Placing (set u i x) (put v i x) rest' (i + 1)
      unfolding mask_bytes
      goes small x b rest' ex el a er =
          let hu : i < length u = omega (arith, p.long) in
          let t : take (i + 1) (set u i x) ≡ take i u ++ (x ∷ []) = rw (add-one i) (take-suc-set u i x hu) in
          let cb : map is_one (take (i + 1) (set u i x)) ≡ c ++ (b ∷ []) = ap (map is_one) t ∙ map-append is_one (take i u) (x ∷ []) ∙ ap (λ (y : Bool). c ++ (y ∷ [])) (ap is_one ex ∙ one_bit b) in
          record {
            low = omega arith;
            long = length-set u i x ∙ p.long;
            wide = put-length v i x ∙ p.wide;
            bits = ap (map bit) cb ∙ map-append bit c (b ∷ []) ∙ ap₂ {C = List ℕ} (λ (l : List ℕ) (y : ℕ). l ++ (y ∷ [])) p.bits (sym ex) ∙ sym t;
            holds = rw (cb, ex) (holds_more v c b i (sym length_c) (omega (arith, p.wide)) p.holds);
            ones = a;
            room = rw (add-one i) er;
            left = rw (cb, add-one i) (append_assoc c (b ∷ []) (place (drop (suc i) ks) (c ++ (b ∷ [])) (map is_one rest')) ∙ ap (λ (l : List Bool). c ++ l) (sym el) ∙ p.left);
          }
        where
          one_bit : (b : Bool) → is_one (bit b) ≡ b
          one_bit true = refl
          one_bit false = refl

      -- at a free position a bit is left
      pub free-room : eqb (byte s i 0) 0 ≡ true → 0 < length rest
      free-room e = omega (arith, p.room, frees-free s size i h refl e)

      pub free_goes : size ≤ 8 * mask_bytes → eqb (byte s i 0) 0 ≡ true → (x : ℕ) (rest' : List ℕ) → rest ≡ x ∷ rest' → Placing (set u i x) (put v i x) rest' (i + 1)
      unfolding place
      free_goes small e x rest' er =
          let ones : AreBits (x ∷ rest') = rw er at p.ones in
          goes small x (is_one x) rest' (sym (ap (λ (l : List ℕ). get_or l 0 0) ones))
          (rw (rules-at s size i h, rule_free s i refl e, er))
          (ap (drop 1) ones)
          (omega (arith, p.room, frees-free s size i h refl e, ap length er))

      pub frozen_goes : size ≤ 8 * mask_bytes → eqb (byte s i 0) 0 ≡ false → (x : ℕ) → x ≡ bit (eqb (byte s i 1) 1 ⊕ odd (mask s i) (held v)) → Placing (set u i x) (put v i x) rest (i + 1)
      unfolding place
      frozen_goes small e x ex =
          let o : odd (mask s i) (held v) ≡ odd (mask s i) c = odd-held (mask s i) v c p.holds in
          goes small x (eqb (byte s i 1) 1 ⊕ odd (mask s i) c) rest (ex ∙ ap (λ (y : Bool). bit (eqb (byte s i 1) 1 ⊕ y)) o)
          (rw (rules-at s size i h, rule_frozen s i refl e))
          p.ones
          (omega (arith, p.room, frees-frozen s size i h refl e))

    pub placed : (u v rest : List ℕ) (i : ℕ) → size ≤ i → Placing u v rest i → u ≡ map bit (place ks [] (map is_one f))
    unfolding place
    placed u v rest i h p =
        let t : take i u ≡ u = take_all i u (omega (arith, p.long)) in
        sym (p.bits ∙ t) ∙ ap (map bit) (sym (append-nil (map is_one (take i u))) ∙ ap (λ (l : List Rule). map is_one (take i u) ++ place l (map is_one (take i u)) (map is_one rest)) (sym (drop_of_length-le ks {i = i} (omega (arith, length-tab size (rule_at s))))) ∙ p.left)

  -- ---- the free bits of a vector

  module _ (u : List ℕ) where
    abbrev us : List Bool
    us = map is_one u

    pub record Taking (fr : List ℕ) (next i : ℕ) : Type 0 where
      pub low : i ≤ size
      pub room : next + frees (drop i ks) ≡ length fr
      pub left : take next fr ++ map bit (free_bits (drop i ks) (drop i us)) ≡ map bit (free_bits ks us)

    module _ (lu : length u ≡ size) (au : AreBits u) (fr : List ℕ) (next i : ℕ) (h : i < size) (p : Taking fr next i) where
      values_at : drop i us ≡ is_one (get_or u i 0) ∷ drop (suc i) us
      values_at = drop-cons us i false (omega (arith, length-map u is_one)) ∙ ap {B = List Bool} (λ b. b ∷ drop (suc i) us) (get_or_map is_one u i 0)

      pub take-room : eqb (byte s i 0) 0 ≡ true → next < length fr
      take-room e = omega (arith, p.room, frees-free s size i h refl e)

      pub free_taken : eqb (byte s i 0) 0 ≡ true → Taking (set fr next (get_or u i 0)) (next + 1) (i + 1)
      free_taken e =
          let x : ℕ = get_or u i 0 in
          let hn : next < length fr = take-room e in
          let cut : free_bits (drop i ks) (drop i us) ≡ is_one x ∷ free_bits (drop (suc i) ks) (drop (suc i) us) = rw (rules-at s size i h, rule_free s i refl e, values_at) in
          record {
            low = omega arith;
            room = rw (add-one i) (omega (arith, p.room, frees-free s size i h refl e, length-set fr next x));
            left =
                rw (add-one i, add-one next, take-suc-set fr next x)
                (append_assoc (take next fr) (x ∷ []) _ ∙ ap (λ (l : List ℕ). take next fr ++ l) (ap {B = List ℕ} (λ y. y ∷ map bit (free_bits (drop (suc i) ks) (drop (suc i) us))) (is-bit u i au (omega arith)) ∙ ap (map bit) (sym cut)) ∙ p.left);
          }

      pub frozen_passed : eqb (byte s i 0) 0 ≡ false → Taking fr next (i + 1)
      frozen_passed e =
          let cut : free_bits (drop i ks) (drop i us) ≡ free_bits (drop (suc i) ks) (drop (suc i) us) = rw (rules-at s size i h, rule_frozen s i refl e, values_at) in
          record {
            low = omega arith;
            room = rw (add-one i) (omega (arith, p.room, frees-frozen s size i h refl e));
            left = rw (add-one i) (ap (λ (l : List Bool). take next fr ++ map bit l) (sym cut) ∙ p.left);
          }

    pub taken : (fr : List ℕ) (next i : ℕ) → size ≤ i → Taking fr next i → fr ≡ map bit (free_bits ks us)
    taken fr next i h p =
        let none : drop i ks ≡ [] = drop_of_length-le ks {i = i} (omega (arith, length-tab size (rule_at s))) in
        let full : length fr ≤ next = omega (arith, p.room, ap frees none) in
        sym (take_all next fr full) ∙ sym (append-nil (take next fr)) ∙ ap (λ (l : List Rule). take next fr ++ map bit (free_bits l (drop i us))) (sym none) ∙ p.left

-- a bit as a byte
pub small : (x : ℕ) (b : Bool) → x ≡ bit b → x < 2
small x b e = omega (arith, bit-small b)

-- the first of bytes that are bits
first : (x : ℕ) (l : List ℕ) → AreBits (x ∷ l) → x ≡ bit (is_one x)
first x l a = sym (ap (λ (m : List ℕ). get_or m 0 0) a)

pub first-small : (m l : List ℕ) (x : ℕ) → AreBits m → m ≡ x ∷ l → x < 2
first-small m l x a e = small x (is_one x) (first x l (rw e at a))

-- what is not empty has a first
pub left-is : {S : Type 0} (T : Type 0) (o : Option S) (Q : S → Type 0) (l : List ℕ) → 0 < length l → MatchOption o ((length l ≡ 0) × T) Q → IsSome o
left-is T None Q l h m = absurd (omega (arith, m.0))
left-is T (Some x) Q l h m = refl
