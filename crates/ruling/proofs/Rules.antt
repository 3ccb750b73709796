-- The row of a rule, from the last position that a record can name down to the first.
--     Sum, sum-start, sum_hit, sum_miss, sum_skip, sum-next, sum-all     the loop over the named positions
--     gap_all, gap_some                              the names below a position, by words
--     rule_one, rule_zero, rule_wide                 the constant added
use mathlib.Core.Path.{◌≡◌, refl, sym, ap, ap₂, subst, ◌∙◌}
use mathlib.Core.Logic.{⊎_elim}
use Prim.Native.Nat.{ℕ, zero, suc, ◌+◌, ◌-◌, ◌*◌, ◌/◌, ◌%◌, ◌^◌, ◌≤◌, ◌<◌}
use native.Mathlib.Omega.{arith}
use native.Mathlib.Nat.{mod-lt}
use mathlib.Core.Bool.{Bool, true, false, true≢false}
use mathlib.Core.List.{List, [], ◌∷◌}
use lib.ListN.{length, drop, set, get_or, replicate, length-replicate, length-set}
use lib.Seq.{paste, take_all}
use lib.Bits.{bit_xor, xor_comm}
use lib.Count.{count_leading_zeros}
use lib.Dec.{eqb}
use borrow.Author.Tests.{eq-eqb, ne_eqb}
use Rattle.bits.specs.Vectors.{tab}
use Rattle.bits.specs.Rows.{Row, ◌⊻◌, row, rows, added}
use Rattle.bits.specs.Words.{has_bit}
use Rattle.bits.proofs.Tests.{le_or_lt}
use Rattle.bits.proofs.WordBits.{zero_bit, leading_bit, shl_bit, shl_low}
use Rattle.bits.proofs.RowLaws.{length_part, row_fit}
use Rattle.bits.proofs.RowXor.{length-⊻, ⊻-comm, nought-⊻, one_⊻}
use Rattle.bits.proofs.RowsWritten.{paste_all, added-fits}
use Rattle.meaning.specs.Limits.{mask_bytes}
use Rattle.meaning.specs.Sheet.{byte, names, mask}
use Rattle.sheet.specs.Masks.{Spelt}
use Rattle.model.specs.Model.{gate, named, rule_value}
use Rattle.model.specs.RowValues.{unit_row, row_values}
use Rattle.ruling.specs.Ruling.{Gap}

-- ---- tables

module _ {A : Type 0} where
  tab-drop : (n j : ℕ) (f : ℕ → A) → j < n → drop j (tab n f) ≡ f j ∷ drop (suc j) (tab n f)
  tab-drop zero j f p = absurd (omega arith)
  tab-drop (suc n) zero f p = refl
  tab-drop (suc n) (suc j) f p = tab-drop n j (λ (i : ℕ). f (suc i)) (omega arith)

  tab-over : (n : ℕ) (f : ℕ → A) → drop n (tab n f) ≡ []
  tab-over zero f = refl
  tab-over (suc n) f = tab-over n (λ (i : ℕ). f (suc i))

-- ---- the named rows, from position j on

abbrev named_from : ℕ → ℕ → List ℕ → List ℕ → ℕ → ℕ → Row
named_from c w us sheet at j = named (row_values c w) (drop j (mask sheet at)) (drop j (rows w at us))

named_start : (c w : ℕ) (us sheet : List ℕ) (at : ℕ) → replicate w 0 ≡ named_from c w us sheet at at
named_start c w us sheet at = sym (ap (named (row_values c w) (drop at (mask sheet at))) (tab-over at (row w us)) ∙ named-nil (drop at (mask sheet at)))
  where
    named-nil : (ms : List Bool) → named (row_values c w) ms [] ≡ replicate w 0
    named-nil [] = refl
    named-nil (m ∷ ms) = refl

named_step : (c w : ℕ) (us sheet : List ℕ) (at j : ℕ) → j < at → at < 8 * mask_bytes
    → named_from c w us sheet at j ≡ gate (row_values c w) (names sheet at j) (row w us j) ⊻ named_from c w us sheet at (suc j)
unfolding mask
named_step c w us sheet at j p q = ap₂ (named (row_values c w)) (tab-drop (8 * mask_bytes) j (names sheet at) (omega arith)) (tab-drop at j (row w us) p)

-- d is the sum from j on
pub record Sum (w at j : ℕ) (us sheet d : List ℕ) : Type 0 where
  pub size : length d ≡ w
  pub is : (c : ℕ) → d ≡ named_from c w us sheet at j

pub sum-start : (w at : ℕ) (us sheet d : List ℕ) → d ≡ replicate w 0 → Sum w at at us sheet d
sum-start w at us sheet d e = record { size = ap length e ∙ length-replicate w 0; is = λ c. e ∙ named_start c w us sheet at }

pub sum-all : (w at j : ℕ) (us sheet d : List ℕ) → j ≤ 0 → Sum w at j us sheet d → (c : ℕ) → d ≡ named (row_values c w) (mask sheet at) (rows w at us)
sum-all w at j us sheet d z s c =
    let q : j ≡ 0 = omega arith in
    s.is c ∙ ap (named_from c w us sheet at) q

module _ (w at : ℕ) (us sheet : List ℕ) (room : at * w ≤ length us) (few : at < 8 * mask_bytes) where
  module _ (j : ℕ) (p : 0 < j) (q : j ≤ at) (d : List ℕ) (s : Sum w at j us sheet d) where
    abbrev last : Row
    last = row w us (j - 1)

    last-wide : length last ≡ w
    last-wide = let f = row_fit (j - 1) at w (omega arith) in length_part us ((j - 1) * w) w (omega arith)

    sum_step : (c : ℕ) (t : Bool) → names sheet at (j - 1) ≡ t → named_from c w us sheet at (j - 1) ≡ gate (row_values c w) t last ⊻ named_from c w us sheet at j
    sum_step c t b =
        let back : suc (j - 1) ≡ j = omega arith in
        named_step c w us sheet at (j - 1) (omega arith) few ∙ ap₂ (λ (t : Bool) (i : ℕ). gate (row_values c w) t last ⊻ named_from c w us sheet at i) b back

    pub sum_hit : names sheet at (j - 1) ≡ true → (d' : List ℕ) → d' ≡ added d 0 us ((j - 1) * w) w → Sum w at (j - 1) us sheet d'
    sum_hit b d' e =
        let f = row_fit (j - 1) at w (omega arith) in
        let ld = s.size in
        let ls : length (d ⊻ last) ≡ w = length-⊻ d last w s.size last-wide in
        let whole : d' ≡ d ⊻ last =
        e ∙ added-fits d 0 us ((j - 1) * w) w (omega arith) (omega arith) ∙ ap (λ (y : Row). paste d 0 (y ⊻ last) w) (take_all w d (omega arith)) ∙ paste_all d (d ⊻ last) w s.size ls in
        record {
          size = ap length whole ∙ ls;
          is = λ c. whole ∙ ⊻-comm d last ∙ ap (λ (y : Row). last ⊻ y) (s.is c) ∙ sym (sum_step c true b);
        }

    pub sum_miss : names sheet at (j - 1) ≡ false → Sum w at (j - 1) us sheet d
    sum_miss b =
        record {
          size = s.size;
          is = λ c. s.is c ∙ sym (sum_step c false b ∙ nought-⊻ w (named_from c w us sheet at j) (sym (ap length (s.is c)) ∙ s.size));
        }

  -- several positions passed over at once
  pub sum_skip : (k i : ℕ) → i ≤ at → k ≤ i → ((t : ℕ) → t < k → names sheet at (i - suc t) ≡ false) → (d : List ℕ) → Sum w at i us sheet d → Sum w at (i - k) us sheet d
  sum_skip zero i a l f d s = subst (λ (x : ℕ). Sum w at x us sheet d) (let e : i ≡ i - 0 = omega arith in e) s
  sum_skip (suc k) i a l f d s =
      let e : (t : ℕ) → i - 1 - suc t ≡ i - suc (suc t) = λ t. omega arith in
      let o : i - 1 ≡ i - suc 0 = omega arith in
      let z : i - 1 - k ≡ i - suc k = omega arith in
      subst (λ (x : ℕ). Sum w at x us sheet d) z
      (sum_skip k (i - 1) (omega arith) (omega arith) (λ t p. ap (names sheet at) (e t) ∙ f (suc t) (omega arith)) d (sum_miss i (omega arith) a d s (ap (names sheet at) o ∙ f 0 (omega arith))))

  -- and the one below them named
  pub sum-next : (k i : ℕ) → i ≤ at → suc k ≤ i → Gap sheet at i k → k ≤ (i - 1) % 64 → (d : List ℕ) → Sum w at i us sheet d
      → (d' : List ℕ) → d' ≡ added d 0 us ((i - (k + 1)) * w) w → Sum w at (i - (k + 1)) us sheet d'
  sum-next k i a l g h d s d' e =
      let o : i - (k + 1) ≡ i - k - 1 = omega arith in
      let z : i - suc k ≡ i - k - 1 = omega arith in
      subst (λ (x : ℕ). Sum w at x us sheet d') (sym o)
      (sum_hit (i - k) (omega arith) (omega arith) d (sum_skip k i a (omega arith) g.unnamed d s) (ap (names sheet at) (sym z) ∙ g.found h) d' (e ∙ ap (λ (x : ℕ). added d 0 us (x * w) w) o))

-- ---- the names below a position, by words

module _ (s : List ℕ) (i j x : ℕ) (p : 0 < j) (sp : Spelt s i ((j - 1) / 64) x) where
  abbrev top : ℕ
  top = (j - 1) % 64

  -- the word with position j - 1 at its highest bit
  abbrev raised : ℕ
  raised = x * 2 ^ (63 - top) % 2 ^ 64

  below : (t : ℕ) → t ≤ top → has_bit raised (63 - t) ≡ names s i (j - suc t)
  below t l =
      let e : 63 - t ≡ 63 - top + (top - t) = omega arith in
      let q : 64 * ((j - 1) / 64) + (top - t) ≡ j - suc t = omega arith in
      ap (has_bit raised) e ∙ shl_bit 64 (63 - top) (top - t) x (omega arith) ∙ sp.bits (top - t) (omega arith) ∙ ap (names s i) q

  pub gap_all : raised ≡ 0 → Gap s i j (top + 1)
  gap_all e = record {
    within = omega arith;
    unnamed = λ t l. sym (below t (omega arith)) ∙ ap (λ (y : ℕ). has_bit y (63 - t)) e ∙ zero_bit (63 - t);
    found = λ l. absurd (omega arith);
  }

  pub gap_some : (raised ≡ 0 → ⊥) → Gap s i j (count_leading_zeros 64 raised)
  gap_some n =
      let (b, z, on, off) = leading_bit 64 raised (omega (arith, n)) (mod-lt (x * 2 ^ (63 - top)) (omega arith)) in
      let k : ℕ = count_leading_zeros 64 raised in
      let inside : k ≤ top =
      ⊎_elim (λ (l : 63 - top ≤ b). let m : k ≤ top = omega arith in m) (λ (l : b < 63 - top). absurd (true≢false (sym on ∙ shl_low 64 (63 - top) b x l (omega arith)))) (le_or_lt (63 - top) b) in
      record {
        within = omega arith;
        unnamed = λ t l. sym (below t (omega arith)) ∙ off (63 - t) (omega arith);
        found = λ l. let e : b ≡ 63 - k = omega arith in sym (below k l) ∙ ap (has_bit raised) (sym e) ∙ on;
      }

-- ---- the rule's row

length-named : (c w n : ℕ) (ms : List Bool) (f : ℕ → Row) → ((i : ℕ) → i < n → length (f i) ≡ w) → length (named (row_values c w) ms (tab n f)) ≡ w
length-named c w n [] f k = length-replicate w 0
length-named c w zero (m ∷ ms) f k = length-replicate w 0
length-named c w (suc n) (m ∷ ms) f k =
    length-⊻ (gate (row_values c w) m (f 0)) (named (row_values c w) ms (tab n (λ (i : ℕ). f (suc i)))) w (go m) (length-named c w n ms (λ (i : ℕ). f (suc i)) (λ i p. k (suc i) (omega arith)))
  where
    go : (m : Bool) → length (gate (row_values c w) m (f 0)) ≡ w
    go true = k 0 (omega arith)
    go false = length-replicate w 0

module _ (c w : ℕ) (us : List ℕ) (at : ℕ) (room : at * w ≤ length us) (sheet : List ℕ) where
  abbrev sum_row : Row
  sum_row = named (row_values c w) (mask sheet at) (rows w at us)

  named-wide : length sum_row ≡ w
  named-wide = length-named c w at (mask sheet at) (row w us) (λ i p. let f = row_fit i at w p in length_part us (i * w) w (omega arith))

  pub rule_wide : (b : Bool) → length (rule_value (row_values c w) b (mask sheet at) (rows w at us)) ≡ w
  rule_wide true = length-⊻ (unit_row c w) sum_row w (length-set (replicate w 0) c 1 ∙ length-replicate w 0) named-wide
  rule_wide false = length-⊻ (replicate w 0) sum_row w (length-replicate w 0) named-wide

  module _ (cw : c < w) (d : List ℕ) (e : d ≡ sum_row) (k : ℕ) (ek : k ≡ byte sheet at 1) where
    abbrev meant : Row
    meant = rule_value (row_values c w) (eqb (byte sheet at 1) 1) (mask sheet at) (rows w at us)

    pub rule_one : k ≡ 1 → set d c (bit_xor (get_or d c 0) 1) ≡ meant
    rule_one b =
        ap (set d c) (xor_comm (get_or d c 0) 1) ∙ ap (λ (l : List ℕ). set l c (bit_xor 1 (get_or l c 0))) e
        ∙ sym (one_⊻ w c 1 sum_row cw named-wide)
        ∙ ap (λ (t : Bool). gate (row_values c w) t (unit_row c w) ⊻ sum_row) (sym (eq-eqb (byte sheet at 1) 1 (sym ek ∙ b)))

    pub rule_zero : (k ≡ 1 → ⊥) → d ≡ meant
    rule_zero b =
        e ∙ sym (nought-⊻ w sum_row named-wide)
        ∙ ap (λ (t : Bool). gate (row_values c w) t (unit_row c w) ⊻ sum_row) (sym (ne_eqb (byte sheet at 1) 1 (λ z. b (ek ∙ z))))
