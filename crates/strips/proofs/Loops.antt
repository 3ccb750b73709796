-- What the loops keep.
--     PutUpTo, put_turn           the words of a record
--     PlacedUpTo, place_turn      those of all records
--     next_left, some_left, put_record      a record that is cut off a strip
--     lost-is                     what is lost, as a word
use mathlib.Core.Path.{◌≡◌, refl, sym, ap, ◌∙◌, subst}
use mathlib.Core.Logic.{◌⊎◌, inl, inr, ⊎_elim}
use Prim.Native.Nat.{ℕ, ◌+◌, ◌*◌, ◌/◌, ◌%◌, ◌≤◌, ◌<◌}
use native.Mathlib.Omega.{arith}
use native.Mathlib.Nat.{eq-or-lt_of_le}
use mathlib.Core.List.{List, [], ◌∷◌, ◌++◌, map}
use lib.ListN.{length, take, drop, set, get_or, length-set, length-append, length-drop}
use lib.Seq.{get_or-set_same, get_or-set_other, take_at, drop_at, drop-drop}
use Rattle.bits.specs.Vectors.{tab}
use Rattle.bits.specs.Bytes.{Holds}
use Rattle.bits.proofs.Tests.{eq_or_ne, lt_or_gt}
use Rattle.bits.proofs.RowLaws.{row_fit, get_or_part}
use Rattle.bits.specs.Rows.{part}
use Rattle.bits.specs.Words.{has_bit}
use Rattle.strips.specs.Placing.{PutLanes, lost_sym, lost_word}

-- ---- the words of one record

pub record PutUpTo (k to : ℕ) (bytes v v' : List ℕ) : Type 0 where
  pub size : length v' ≡ length v
  pub new : (i : ℕ) → i < k → Holds 8 bytes (8 * i) (get_or v' (to + i) 0)
  pub old : (p : ℕ) → (p < to) ⊎ (to + 8 ≤ p) → get_or v' p 0 ≡ get_or v p 0

pub put_turn : {k to x : ℕ} {bytes v v' : List ℕ} → PutUpTo k to bytes v v' → k < 8 → to + 8 ≤ length v → Holds 8 bytes (8 * k) x → PutUpTo (k + 1) to bytes v (set v' (to + k) x)
put_turn {k} {to} {x} {bytes} {v} {v'} u h r e =
    let s = u.size in
    record {
      size = length-set v' (to + k) x ∙ u.size;
      new = λ i p. let q : i ≤ k = omega arith in go i (eq-or-lt_of_le q);
      old = λ p q. get_or-set_other v' (to + k) p x 0 (λ (z : p ≡ to + k). ⊎_elim (λ (a : p < to). omega arith) (λ (a : to + 8 ≤ p). omega arith) q) ∙ u.old p q;
    }
  where
    go : (i : ℕ) → (i ≡ k) ⊎ (i < k) → Holds 8 bytes (8 * i) (get_or (set v' (to + k) x) (to + i) 0)
    go i (inl z) = let s = u.size in rw z (subst (Holds 8 bytes (8 * k)) (sym (get_or-set_same v' (to + k) x 0 (omega arith))) e)
    go i (inr p) = subst (Holds 8 bytes (8 * i)) (sym (get_or-set_other v' (to + k) (to + i) x 0 (λ (z : to + i ≡ to + k). omega arith))) (u.new i p)

-- ---- those of all records

pub record PlacedUpTo (j c w n : ℕ) (strip v : List ℕ) : Type 0 where
  pub bare : (i q : ℕ) → i < n → q < c + 1 → get_or v (i * w + q) 0 ≡ 0
  pub lanes : (i k : ℕ) → i < j → k < 8 → Holds 8 strip (i * 64 + 8 * k) (get_or v (i * w + (c + 1 + k)) 0)

-- record j of a strip, of which the iterator has what is left from there on
module _ (j : ℕ) (strip rest x rest' : List ℕ) (e : rest ≡ drop (j * 64) strip) (c : rest ≡ x ++ rest') (h : length x ≡ 64) where
  record-is : x ≡ part 64 (j * 64) strip
  record-is = sym (take_at x rest' 64 h) ∙ ap (take 64) (sym c ∙ e)

  pub next_left : rest' ≡ drop ((j + 1) * 64) strip
  next_left =
      let n : j * 64 + 64 ≡ (j + 1) * 64 = omega arith in
      sym (drop_at x rest' 64 h) ∙ ap (drop 64) (sym c ∙ e) ∙ drop-drop 64 (j * 64) strip ∙ ap (λ (k : ℕ). drop k strip) n

  pub some_left : (n : ℕ) → length strip ≡ n * 64 → j < n
  some_left n l = omega (arith, ap length e, length-drop (j * 64) strip, ap length c, length-append x rest')

  pub put_record : {to : ℕ} {v v' : List ℕ} → PutLanes to x v v' → (k : ℕ) → k < 8 → Holds 8 strip (j * 64 + 8 * k) (get_or v' (to + k) 0)
  put_record o k p =
      let H = o.new k p in
      record {
        bits = λ i q. H.bits i q ∙ ap (λ (y : ℕ). has_bit y (i % 8)) (byte (8 * k + i / 8) (omega arith) ∙ ap (λ (a : ℕ). get_or strip a 0) (omega arith));
        small = H.small;
      }
    where
      byte : (i : ℕ) → i < 64 → get_or x i 0 ≡ get_or strip (j * 64 + i) 0
      byte i q = ap (λ (l : List ℕ). get_or l i 0) record-is ∙ get_or_part strip (j * 64) 64 i q

module _ {j c w n : ℕ} {strip v : List ℕ} (u : PlacedUpTo j c w n strip v) (hj : j < n) (hw : c + 9 ≡ w) (v' : List ℕ)
    (old : (p : ℕ) → (p < j * w + (c + 1)) ⊎ (j * w + (c + 1) + 8 ≤ p) → get_or v' p 0 ≡ get_or v p 0) (new : (k : ℕ) → k < 8 → Holds 8 strip (j * 64 + 8 * k) (get_or v' (j * w + (c + 1) + k) 0)) where
  -- a place before the record's words, or behind them
  outside : (i q : ℕ) → (i ≡ j → ⊥) → q < w → (i * w + q < j * w + (c + 1)) ⊎ (j * w + (c + 1) + 8 ≤ i * w + q)
  outside i q ne h = ⊎_elim (λ (a : i < j). let f = row_fit i j w a in inl (omega arith)) (λ (a : j < i). let f = row_fit j i w a in inr (omega arith)) (lt_or_gt i j ne)

  pub place_turn : PlacedUpTo (j + 1) c w n strip v'
  place_turn =
      record {
        bare = λ i q h k. go i q h k (eq_or_ne i j);
        lanes = λ i k h p. let q : i ≤ j = omega arith in at i k p (eq-or-lt_of_le q);
      }
    where
      go : (i q : ℕ) → i < n → q < c + 1 → (i ≡ j) ⊎ (i ≡ j → ⊥) → get_or v' (i * w + q) 0 ≡ 0
      go i q h k (inl e) = old (i * w + q) (inl (rw e (omega arith))) ∙ u.bare i q h k
      go i q h k (inr ne) = old (i * w + q) (outside i q ne (omega arith)) ∙ u.bare i q h k

      at : (i k : ℕ) → k < 8 → (i ≡ j) ⊎ (i < j) → Holds 8 strip (i * 64 + 8 * k) (get_or v' (i * w + (c + 1 + k)) 0)
      at i k h (inl e) = let z : j * w + (c + 1 + k) ≡ j * w + (c + 1) + k = omega arith in rw e (subst (λ (p : ℕ). Holds 8 strip (j * 64 + 8 * k) (get_or v' p 0)) (sym z) (new k h))
      at i k h (inr p) = subst (Holds 8 strip (i * 64 + 8 * k)) (sym (old (i * w + (c + 1 + k)) (outside i (c + 1 + k) (λ (z : i ≡ j). omega arith) (omega arith)))) (u.lanes i k p h)

-- ---- what is lost

pub lost-is : (l m : List ℕ) → length m ≡ length l → m ≡ tab (length m) (λ (j : ℕ). lost_sym (get_or l j 0)) → m ≡ lost_word l
lost-is l m q e = e ∙ ap (λ (n : ℕ). tab n (λ (j : ℕ). lost_sym (get_or l j 0))) q ∙ go l
  where
    go : (l : List ℕ) → tab (length l) (λ (j : ℕ). lost_sym (get_or l j 0)) ≡ map lost_sym l
    go [] = refl
    go (a ∷ l) = ap {B = List ℕ} (λ t. lost_sym a ∷ t) (go l)
