-- The count of the unknowns by halves.
--     above_lost, below_read                 one symbol
--     either_max, both_min                   two symbols
--     Spreading, spread_more                 the loop over both halves
--     one-.., counts_one, counts_halves      the count of one position, and of a block by its halves
--     counts-most, counts-none               no more than positions; none where nothing is erased
--     counts_word                            of a whole word it is the number of unknowns
--     lost_any                               the search for an erased symbol
use mathlib.Core.Path.{◌≡◌, refl, sym, ap, ap₂, ◌∙◌}
use Prim.Native.Nat.{ℕ, zero, suc, ◌+◌, ◌^◌, ◌≤◌, ◌<◌, max, min}
use native.Mathlib.Decide.{dec_lt}
use mir.Val.{bool_byte}
use native.Mathlib.Omega.{arith}
use native.Mathlib.Nat.{zero-add, add-zero}
use mathlib.Core.Bool.{Bool, true, false, ◌&&◌, ◌||◌}
use mathlib.Core.List.{List, [], ◌∷◌, ◌++◌, map, map-append}
use Rattle.std.specs.List.{list_any}
use Rattle.std.proofs.lemmas.List.{take_more, take_more_set}
use Rattle.std.proofs.lemmas.Grind.{drop_more_same}
use lib.ListN.{length, take, drop, set, get_or, length-append, length-map}
use lib.Seq.{get_or-drop, length-take-le, drop-set-lt}
use lib.Dec.{eqb, ltb}
use borrow.Author.Tests.{lt-ltb}
use Rattle.bits.specs.Vectors.{bit, any, tab, ones}
use Rattle.bits.proofs.Tests.{or_false_l, or_false_r, count_append, count_le, length-tab, tab_below, tab_ext, tab_append}
use Rattle.meaning.specs.Sheet.{Rule, free, frozen, byte, rule_at, rules}
use Rattle.meaning.specs.Codewords.{erased}
use Rattle.meaning.specs.Open.{either, both, opens, open_free, open_all, unknowns}
use Rattle.meaning.proofs.Open.{opens_append, length-opens, ones-opens, open_list}
use Rattle.meaning.proofs.Gap.{length-open_free, open_free_le}
use Rattle.sheet.proofs.Records.{rule_free, rule_frozen}
use Rattle.counting.specs.Halves.{Spread, rules_from, open_one, open_frees}

-- ---- one symbol

pub above_lost : (a : ℕ) → 1 < a → erased a ≡ true
above_lost zero h = absurd (omega arith)
above_lost (suc zero) h = absurd (omega arith)
above_lost (suc (suc a)) h = refl

pub below_read : (a : ℕ) → a ≤ 1 → erased a ≡ false
below_read zero h = refl
below_read (suc zero) h = refl
below_read (suc (suc a)) h = absurd (omega arith)

lost_above : (a : ℕ) → ltb 1 a ≡ erased a
lost_above zero = refl
lost_above (suc zero) = refl
lost_above (suc (suc a)) = lt-ltb 1 (suc (suc a)) (omega arith)

-- ---- two symbols: the larger one, and the smaller one

pub either_max : (a b : ℕ) → erased (max b a) ≡ (erased a || erased b)
either_max a b = go (dec_lt 1 a) (dec_lt 1 b)
  where
    go : Dec (1 < a) → Dec (1 < b) → erased (max b a) ≡ (erased a || erased b)
    go (yes p) q = rw (above_lost a p) (above_lost (max b a) (omega arith))
    go (no p) (yes q) = rw (below_read a (omega arith), above_lost b q) (above_lost (max b a) (omega arith))
    go (no p) (no q) = rw (below_read a (omega arith), below_read b (omega arith)) (below_read (max b a) (omega arith))

pub both_min : (a b : ℕ) → erased (min b a) ≡ (erased a && erased b)
both_min a b = go (dec_lt 1 a) (dec_lt 1 b)
  where
    go : Dec (1 < a) → Dec (1 < b) → erased (min b a) ≡ (erased a && erased b)
    go (no p) q = rw (below_read a (omega arith)) (below_read (min b a) (omega arith))
    go (yes p) (no q) = rw (above_lost a p, below_read b (omega arith)) (below_read (min b a) (omega arith))
    go (yes p) (yes q) = rw (above_lost a p, above_lost b q) (above_lost (min b a) (omega arith))

-- ---- both halves: what is done, and then what is left to do

either_snoc : (v w : List Bool) (a b : Bool) → length v ≡ length w → either (v ++ (a ∷ [])) (w ++ (b ∷ [])) ≡ either v w ++ ((a || b) ∷ [])
either_snoc [] [] a b h = refl
either_snoc [] (y ∷ w) a b h = absurd (omega arith)
either_snoc (x ∷ v) [] a b h = absurd (omega arith)
either_snoc (x ∷ v) (y ∷ w) a b h = ap {B = List Bool} (λ (r : List Bool). (x || y) ∷ r) (either_snoc v w a b (omega arith))

both_snoc : (v w : List Bool) (a b : Bool) → length v ≡ length w → both (v ++ (a ∷ [])) (w ++ (b ∷ [])) ≡ both v w ++ ((a && b) ∷ [])
both_snoc [] [] a b h = refl
both_snoc [] (y ∷ w) a b h = absurd (omega arith)
both_snoc (x ∷ v) [] a b h = absurd (omega arith)
both_snoc (x ∷ v) (y ∷ w) a b h = ap {B = List Bool} (λ (r : List Bool). (x && y) ∷ r) (both_snoc v w a b (omega arith))

pub record Spreading (l₀ r₀ : List ℕ) (i : ℕ) (l r : List ℕ) : Type 0 where
  pub done : Spread (take i l₀) (take i r₀) (take i l) (take i r)
  pub left : drop i l ≡ drop i l₀
  pub right : drop i r ≡ drop i r₀

same_at : (l l₀ : List ℕ) (i : ℕ) → drop i l ≡ drop i l₀ → get_or l i 0 ≡ get_or l₀ i 0
same_at l l₀ i e = ap (λ (k : ℕ). get_or l k 0) (sym (add-zero i)) ∙ sym (get_or-drop i l 0 0) ∙ ap (λ (t : List ℕ). get_or t 0 0) e ∙ get_or-drop i l₀ 0 0 ∙ ap (λ (k : ℕ). get_or l₀ k 0) (add-zero i)

lost_more : (l : List ℕ) (i : ℕ) → i < length l → map erased (take (i + 1) l) ≡ map erased (take i l) ++ (erased (get_or l i 0) ∷ [])
lost_more l i h = ap (map erased) (take_more l i 0 h) ∙ map-append erased (take i l) (get_or l i 0 ∷ [])

lost_set : (l : List ℕ) (i x : ℕ) → i < length l → map erased (take (i + 1) (set l i x)) ≡ map erased (take i l) ++ (erased x ∷ [])
lost_set l i x h = ap (map erased) (take_more_set l i x h) ∙ map-append erased (take i l) (x ∷ [])

module _ (l₀ r₀ : List ℕ) (i : ℕ) (l r : List ℕ) (x y : ℕ) (h : i < length l₀) (e : length l₀ ≡ length r₀) (el : length l ≡ length l₀) (er : length r ≡ length r₀) (s : Spreading l₀ r₀ i l r) where
  as_long : length (map erased (take i l₀)) ≡ length (map erased (take i r₀))
  as_long = length-map (take i l₀) erased ∙ length-take-le i l₀ (omega arith) ∙ sym (length-take-le i r₀ (omega arith)) ∙ sym (length-map (take i r₀) erased)

  pub spread_more : erased x ≡ (erased (get_or l i 0) || erased (get_or r i 0)) → erased y ≡ (erased (get_or l i 0) && erased (get_or r i 0)) → Spreading l₀ r₀ (i + 1) (set l i x) (set r i y)
  spread_more ex ey =
      let a = same_at l l₀ i s.left in
      let b = same_at r r₀ i s.right in
      let join : List Bool → Bool → List Bool = λ v c. v ++ (c ∷ []) in
      record {
        done = record {
          left = lost_set l i x (omega arith) ∙ ap₂ join s.done.left (ex ∙ ap₂ (λ p q. erased p || erased q) a b)
              ∙ sym (ap₂ either (lost_more l₀ i h) (lost_more r₀ i (omega arith)) ∙ either_snoc (map erased (take i l₀)) (map erased (take i r₀)) _ _ as_long);
          right = lost_set r i y (omega arith) ∙ ap₂ join s.done.right (ey ∙ ap₂ (λ p q. erased p && erased q) a b)
              ∙ sym (ap₂ both (lost_more l₀ i h) (lost_more r₀ i (omega arith)) ∙ both_snoc (map erased (take i l₀)) (map erased (take i r₀)) _ _ as_long);
        };
        left = drop-set-lt (i + 1) l i x (omega arith) ∙ drop_more_same l l₀ i s.left;
        right = drop-set-lt (i + 1) r i y (omega arith) ∙ drop_more_same r r₀ i s.right;
      }

-- ---- lists by place

open_free_append : (ks ls : List Rule) (o p : List Bool) → length ks ≡ length o → open_free (ks ++ ls) (o ++ p) ≡ open_free ks o ++ open_free ls p
open_free_append [] ls [] p h = refl
open_free_append [] ls (b ∷ o) p h = absurd (omega arith)
open_free_append (k ∷ ks) ls [] p h = absurd (omega arith)
open_free_append (free ∷ ks) ls (b ∷ o) p h = ap {B = List Bool} (λ (r : List Bool). b ∷ r) (open_free_append ks ls o p (omega arith))
open_free_append (frozen c m ∷ ks) ls (b ∷ o) p h = ap {B = List Bool} (λ (r : List Bool). false ∷ r) (open_free_append ks ls o p (omega arith))

-- ---- the count

pub counts_one : (sheet : List ℕ) (at k : ℕ) (m : List ℕ) → k ≡ 0 → length m ≡ 1 → open_one (rule_at sheet at) (get_or m 0 0) ≡ open_frees sheet at k m
unfolding open_frees opens
counts_one sheet at k [] z l = absurd (omega arith)
counts_one sheet at k (a ∷ b ∷ m) z l = absurd (omega arith)
counts_one sheet at k (a ∷ []) z l = rw (z, add-zero at) (go (rule_at sheet at))
  where
    go : (r : Rule) → open_one r a ≡ ones (open_free (r ∷ []) (erased a ∷ []))
    go free = sym (add-zero (bit (erased a)))
    go (frozen b q) = refl

pub counts-most : (sheet : List ℕ) (at k : ℕ) (m : List ℕ) → length m ≡ 2 ^ k → open_frees sheet at k m ≤ length m
unfolding open_frees
counts-most sheet at k m l =
    let ks = rules_from sheet at (length m) in
    let o = opens k (map erased m) in
    let lo : length o ≡ 2 ^ k = length-opens k (map erased m) (length-map m erased ∙ l) in
    let lk : length ks ≡ length m = length-tab (length m) (λ (j : ℕ). rule_at sheet (at + j)) in
    let n : length (open_free ks o) ≡ length o = length-open_free ks o (lk ∙ l ∙ sym lo) in
    omega (arith, count_le (λ (b : Bool). b) (open_free ks o))

module _ (sheet : List ℕ) (at k h : ℕ) (l r l' r' : List ℕ) (eh : h ≡ 2 ^ k) (ll : length l ≡ h) (lr : length r ≡ h) (ll' : length l' ≡ h) (lr' : length r' ≡ h) (spread : Spread l r l' r') where
  rules-is : rules_from sheet at (length (l ++ r)) ≡ rules_from sheet at (length l') ++ rules_from sheet (at + h) (length r')
  rules-is =
      let rule : ℕ → Rule = λ j. rule_at sheet (at + j) in
      ap (λ (n : ℕ). tab n rule) (length-append l r ∙ ap₂ ◌+◌ ll lr) ∙ tab_append h h rule
      ∙ ap₂ (λ (x y : List Rule). x ++ y) (ap (λ (n : ℕ). tab n rule) (sym ll'))
      (tab_below h (λ (j : ℕ). rule (h + j)) (λ (j : ℕ). rule_at sheet (at + h + j)) (λ j p. let q : at + (h + j) ≡ at + h + j = omega arith in ap (rule_at sheet) q)
      ∙ ap (λ (n : ℕ). tab n (λ (j : ℕ). rule_at sheet (at + h + j))) (sym lr'))

  pub counts_halves : open_frees sheet at (suc k) (l ++ r) ≡ open_frees sheet at k l' + open_frees sheet (at + h) k r'
  unfolding open_frees
  counts_halves =
      let a = map erased l' in
      let b = map erased r' in
      let ks = rules_from sheet at (length l') in
      let ls = rules_from sheet (at + h) (length r') in
      let o : opens (suc k) (map erased (l ++ r)) ≡ opens k a ++ opens k b =
      ap (opens (suc k)) (map-append erased l r) ∙ opens_append k (map erased l) (map erased r) (length-map l erased ∙ ll ∙ eh) ∙ ap₂ (λ (x y : List Bool). opens k x ++ opens k y) (sym spread.left) (sym spread.right) in
      let n : length ks ≡ length (opens k a) =
      length-tab (length l') (λ (j : ℕ). rule_at sheet (at + j)) ∙ ll' ∙ eh ∙ sym (length-opens k a (length-map l' erased ∙ ll' ∙ eh)) in
      ap₂ (λ (x : List Rule) (y : List Bool). ones (open_free x y)) rules-is o ∙ ap ones (open_free_append ks ls (opens k a) (opens k b) n)
      ∙ count_append (λ (x : Bool). x) (open_free ks (opens k a)) (open_free ls (opens k b))

-- nothing is erased: none
any-ones : (m : List ℕ) → any erased m ≡ false → ones (map erased m) ≡ 0
any-ones [] h = refl
any-ones (a ∷ m) h = rw (or_false_l (erased a) (any erased m) h, any-ones m (or_false_r (erased a) (any erased m) h)) refl

pub counts-none : (sheet : List ℕ) (at k : ℕ) (m : List ℕ) → length m ≡ 2 ^ k → any erased m ≡ false → 0 ≡ open_frees sheet at k m
unfolding open_frees
counts-none sheet at k m l h =
    omega (arith, open_free_le (rules_from sheet at (length m)) (opens k (map erased m)), ones-opens k (map erased m) (length-map m erased ∙ l), any-ones m h)

-- of a word
pub counts_word : (sheet word : List ℕ) (n : ℕ) → length word ≡ 2 ^ n → open_frees sheet 0 n word ≡ unknowns n (rules n sheet) word
unfolding open_frees unknowns open_all rules
counts_word sheet word n l =
    ap₂ (λ (x : List Rule) (y : List Bool). ones (open_free x y)) (ap (rules_from sheet 0) l ∙ tab_ext (2 ^ n) (λ (j : ℕ). rule_at sheet (0 + j)) (rule_at sheet) (λ j. ap (rule_at sheet) (zero-add j))) (sym (open_list n (map erased word) (length-map word erased ∙ l)))

-- ---- one position, by its record

module _ (sheet : List ℕ) (at s : ℕ) {b : Bool} (e : b ≡ eqb (byte sheet at 0) 0) where
  pub one_frozen : b ≡ false → 0 ≡ open_one (rule_at sheet at) s
  one_frozen z = rw (rule_frozen sheet at e z)

  pub one_free : b ≡ true → bool_byte (ltb 1 s) ≡ open_one (rule_at sheet at) s
  one_free z = rw (rule_free sheet at e z, lost_above s) (byte_bit (erased s))
    where
      byte_bit : (c : Bool) → bool_byte c ≡ bit c
      byte_bit true = refl
      byte_bit false = refl

-- ---- the search for an erased symbol

pub lost_any : (m : List ℕ) → list_any (λ a. ltb 1 a) m ≡ any erased m
lost_any [] = refl
lost_any (a ∷ m) = ap₂ ◌||◌ (lost_above a) (lost_any m)
