-- How many codewords agree, and how many positions are open.
--     power_of_two     0 or a power of two codewords agree
--     d_le_g           if 2 ^ d agree, d is at most g
--     g_le_erased      g is at most the number of erased symbols
--     nothing-lost     so g is 0 where nothing is
--     open_erased      as many positions are open as symbols are erased
use mathlib.Core.Path.{◌≡◌, refl, sym, ap, ap₂, ◌∙◌}
use mathlib.Core.Logic.{◌⊎◌}
use Prim.Native.Nat.{ℕ, suc, ◌+◌, ◌^◌, ◌≤◌, ◌<◌}
use native.Mathlib.Omega.{arith}
use native.Mathlib.Nat.{suc_inj, zero-add}
use native.Mathlib.Decide.{dec_lt}
use mathlib.Core.Bool.{Bool, true, false, ◌&&◌, not, false≢true, true≢false}
use mathlib.Core.List.{List, [], ◌∷◌, ◌++◌, map}
use lib.ListN.{length, get_or, take, drop, length-append, length-map}
use lib.Seq.{take-append_seam, get_or-append_seam}
use lib.Pow.{pow-lt}
use Rattle.bits.specs.Vectors.{◌⊕◌, bit, all_bits, any, count, zeros, same, ones, odd}
use Rattle.bits.proofs.Rising.{bits-any}
use Rattle.bits.proofs.Tests.{and_l, and_r, and_i, tab-at, length-tab}
use Rattle.bits.proofs.Xor.{⊕-self, eq_⊕, ⊞-self, zeros-none}
use Rattle.meaning.specs.Check.{keeps_rules, keeps}
use Rattle.meaning.specs.Codewords.{agrees, erased, candidates}
use Rattle.meaning.specs.Open.{meet, open_free, is_open, open_pair, opens, open_all, unknowns}
use Rattle.meaning.specs.Sheet.{Rule, free, frozen, early}
use Rattle.meaning.specs.Transform.{polar}
use Rattle.meaning.proofs.Affine.{agrees-clear}
use Rattle.meaning.proofs.Candidates.{passes, length-candidates}
use Rattle.meaning.proofs.Coset.{moves}
use Rattle.meaning.proofs.Open.{meet-clear, open_list, ones-opens}
use Rattle.meaning.proofs.Size.{power, bound}

pub power_of_two : (n : ℕ) (ks : List Rule) (r : ℕ) (w : List ℕ) → (length (candidates n ks r w) ≡ 0) ⊎ ((d : ℕ) × (length (candidates n ks r w) ≡ 2 ^ d))
power_of_two n ks r w = rw length-candidates (power (2 ^ n) (passes n ks r w) (λ u v t lu lv lt p q s. moves n ks r w w refl u v t lu lv lt p q s))

-- ---- a frozen bit follows from those before it

pub odd-early : (m c u v : List Bool) → zeros (drop (length c) m) ≡ true → odd m (c ++ u) ≡ odd m (c ++ v)
odd-early [] c u v h = refl
odd-early (x ∷ m) [] u v h = off (x ∷ m) u h ∙ sym (off (x ∷ m) v h)
  where
    off : (m u : List Bool) → zeros m ≡ true → odd m u ≡ false
    off [] u h = refl
    off (x ∷ m) [] h = refl
    off (true ∷ m) (b ∷ u) h = absurd (false≢true h)
    off (false ∷ m) (b ∷ u) h = off m u h
odd-early (x ∷ m) (b ∷ c) u v h = ap (λ (t : Bool). (x && b) ⊕ t) (odd-early m c u v h)

-- U and W are equal up to place j, where they hold a and b, and keep the rules, of which ks are those from i on
module _ (U W : List Bool) (j : ℕ) (agree : (m : List Bool) → zeros (drop j m) ≡ true → odd m U ≡ odd m W) (a b : Bool) (u v : List Bool) (ab : a ⊕ b ≡ true) where
  frozen-parts : (i : ℕ) (ks : List Rule) (o c : List Bool) → i + length c ≡ j → early i ks ≡ true → keeps_rules ks U (c ++ a ∷ u) ≡ true → keeps_rules ks W (c ++ b ∷ v) ≡ true
      → length c < length ks → get_or o (length c) false ≡ true → get_or (open_free ks o) (length c) false ≡ true
  frozen-parts i [] o c e h p q l g = absurd (omega arith)
  frozen-parts i (k ∷ ks) [] c e h p q l g = g
  frozen-parts i (free ∷ ks) (x ∷ o) [] e h p q l g = g
  frozen-parts i (frozen s m ∷ ks) (x ∷ o) [] e h p q l g =
      let ea : a ≡ s ⊕ odd m U = eq_⊕ a (s ⊕ odd m U) (and_l _ (keeps_rules ks U u) p) in
      let eb : b ≡ s ⊕ odd m W = eq_⊕ b (s ⊕ odd m W) (and_l _ (keeps_rules ks W v) q) in
      let ei : i ≡ j = omega arith in
      let em : odd m U ≡ odd m W = agree m (rw (← ei) (and_l (zeros (drop i m)) _ h)) in
      absurd (true≢false (sym ab ∙ ap₂ ◌⊕◌ ea (eb ∙ ap (λ (t : Bool). s ⊕ t) (sym em)) ∙ ⊕-self (s ⊕ odd m U)))
  frozen-parts i (free ∷ ks) (x ∷ o) (y ∷ c) e h p q l g = frozen-parts (suc i) ks o c (omega arith) h p q (omega arith) g
  frozen-parts i (frozen s m ∷ ks) (x ∷ o) (y ∷ c) e h p q l g =
      frozen-parts (suc i) ks o c (omega arith) (and_r (zeros (drop i m)) _ h) (and_r (not (y ⊕ (s ⊕ odd m U))) _ p) (and_r (not (y ⊕ (s ⊕ odd m W))) _ q) (omega arith) g

-- two vectors whose codewords agree with one word and that part at a place: it is open
pub parts_open : (n : ℕ) (w : List ℕ) (c u v : List Bool) (a b : Bool) → length (c ++ a ∷ u) ≡ 2 ^ n → length u ≡ length v
    → agrees w (polar n (c ++ a ∷ u)) ≡ true → agrees w (polar n (c ++ b ∷ v)) ≡ true → a ⊕ b ≡ true → is_open n (map erased w) (length c) ≡ true
unfolding is_open open_pair
parts_open n w c u v a b l k p q ab =
    let l' : length (c ++ b ∷ v) ≡ 2 ^ n = simp length-append (omega (arith, simp length-append at l)) in
    let x = polar n (c ++ a ∷ u) in
    let y = polar n (c ++ b ∷ v) in
    let same_start : same (take (length c) (c ++ a ∷ u)) (take (length c) (c ++ b ∷ v)) ≡ true =
    rw (take-append_seam c (a ∷ u), take-append_seam c (b ∷ v), ⊞-self c) (zeros-none (length c)) in
    let differ : get_or (c ++ a ∷ u) (length c) false ⊕ get_or (c ++ b ∷ v) (length c) false ≡ true = rw (get_or-append_seam c a u false, get_or-append_seam c b v false) ab in
    let alike : meet (map erased w) x y ≡ true = meet-clear (map erased w) x y ∙ agrees-clear w x y p q in
    bits-any (λ (s : List Bool). any (open_pair n (map erased w) (length c) s) (all_bits (2 ^ n))) (2 ^ n) (c ++ a ∷ u) l
    (bits-any (open_pair n (map erased w) (length c) (c ++ a ∷ u)) (2 ^ n) (c ++ b ∷ v) l' (and_i _ _ (and_i _ _ same_start differ) alike))

pub length-open_free : (ks : List Rule) (o : List Bool) → length ks ≡ length o → length (open_free ks o) ≡ length o
length-open_free [] o h = h
length-open_free (k ∷ ks) [] h = refl
length-open_free (free ∷ ks) (b ∷ o) h = ap suc (length-open_free ks o (suc_inj h))
length-open_free (frozen c m ∷ ks) (b ∷ o) h = ap suc (length-open_free ks o (suc_inj h))

pub at_most : (n : ℕ) (ks : List Rule) (r : ℕ) (w : List ℕ) → length ks ≡ 2 ^ n → early 0 ks ≡ true → length (candidates n ks r w) ≤ 2 ^ unknowns n ks w
unfolding unknowns open_all passes keeps
at_most n ks r w lk ok =
    let o = open_all n w in
    let lo : length o ≡ 2 ^ n = length-tab (2 ^ n) (is_open n (map erased w)) in
    let lf : length (open_free ks o) ≡ 2 ^ n = length-open_free ks o (lk ∙ sym lo) ∙ lo in
    let t : count (passes n ks r w) (all_bits (length (open_free ks o))) ≤ 2 ^ ones (open_free ks o) = bound (open_free ks o) (passes n ks r w)
    (λ c u v a b l k p q ab.
    let lc : length c < 2 ^ n = omega (arith, simp length-append at (l ∙ lf)) in
    frozen-parts (c ++ a ∷ u) (c ++ b ∷ v) (length c) (λ m z. odd-early m c (a ∷ u) (b ∷ v) z) a b u v ab 0 ks o c (zero-add (length c)) ok
    (and_l (keeps_rules ks (c ++ a ∷ u) (c ++ a ∷ u)) _ (and_l (keeps ks r (c ++ a ∷ u)) _ p)) (and_l (keeps_rules ks (c ++ b ∷ v) (c ++ b ∷ v)) _ (and_l (keeps ks r (c ++ b ∷ v)) _ q)) (omega arith)
    (tab-at (2 ^ n) (is_open n (map erased w)) (length c) false lc ∙ parts_open n w c u v a b (l ∙ lf) k (and_r (keeps ks r (c ++ a ∷ u)) _ p) (and_r (keeps ks r (c ++ b ∷ v)) _ q) ab)) in
    rw length-candidates (rw lf at t)

-- d ≤ g
pub d_le_g : (n : ℕ) (ks : List Rule) (r : ℕ) (w : List ℕ) (d : ℕ) → length ks ≡ 2 ^ n → early 0 ks ≡ true → length (candidates n ks r w) ≡ 2 ^ d → d ≤ unknowns n ks w
d_le_g n ks r w d lk ok e = go (dec_lt (unknowns n ks w) d)
  where
    go : Dec (unknowns n ks w < d) → d ≤ unknowns n ks w
    go (yes h) = absurd (omega (arith, pow-lt h, at_most n ks r w lk ok))
    go (no h) = omega arith

-- no more than the open positions
pub open_free_le : (ks : List Rule) (o : List Bool) → ones (open_free ks o) ≤ ones o
open_free_le [] o = omega arith
open_free_le (k ∷ ks) [] = omega arith
open_free_le (free ∷ ks) (b ∷ o) = omega (arith, open_free_le ks o)
open_free_le (frozen c m ∷ ks) (b ∷ o) = omega (arith, open_free_le ks o)

-- g is at most the number of erased symbols
pub g_le_erased : (n : ℕ) (ks : List Rule) (w : List ℕ) → length w ≡ 2 ^ n → unknowns n ks w ≤ ones (map erased w)
unfolding unknowns open_all
g_le_erased n ks w l = rw (open_list n (map erased w) (length-map w erased ∙ l)) (omega (arith, open_free_le ks (opens n (map erased w)), ones-opens n (map erased w) (length-map w erased ∙ l)))

-- where nothing is lost, g is 0
pub nothing-lost : (n : ℕ) (ks : List Rule) (x : List Bool) → length x ≡ 2 ^ n → unknowns n ks (map bit x) ≡ 0
nothing-lost n ks x l = omega (arith, g_le_erased n ks (map bit x) (length-map x bit ∙ l), none-erased x)
  where
    none-erased : (x : List Bool) → ones (map erased (map bit x)) ≡ 0
    none-erased [] = refl
    none-erased (true ∷ x) = omega (arith, none-erased x)
    none-erased (false ∷ x) = omega (arith, none-erased x)

-- the number of open positions equals the number of erased symbols
pub open_erased : (n : ℕ) (w : List ℕ) → length w ≡ 2 ^ n → ones (open_all n w) ≡ ones (map erased w)
unfolding open_all
open_erased n w l = ap ones (open_list n (map erased w) (length-map w erased ∙ l)) ∙ ones-opens n (map erased w) (length-map w erased ∙ l)
