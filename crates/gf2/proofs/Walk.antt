-- What a turn of a sweep does to the list of words: rows swept one by one.
--     togo, Turn                    what is swept and what is to do; a turn of a sweep
--     rows_behind, added_row        how many words the rows behind row i have; a row added
--     sweep_next, sweep_end         a turn of `sweep`, and its end
use mathlib.Core.Path.{◌≡◌, refl, sym, ap, ◌∙◌}
use mathlib.Core.Logic.{◌⊎◌, inl, inr}
use Prim.Native.Nat.{ℕ, zero, suc, ◌+◌, ◌-◌, ◌*◌, ◌/◌, ◌≤◌, ◌<◌}
use native.Mathlib.Omega.{arith}
use native.Mathlib.Nat.{div-mul-le_self}
use mathlib.Core.List.{List, ◌++◌, append_assoc}
use lib.ListN.{length, take, drop, get_or, take-append-drop}
use lib.Seq.{paste, take-paste, drop-paste, drop-drop, take-add, take_all}
use lib.Dec.{eqb}
use borrow.Author.Tests.{eq-eqb, ne_eqb}
use Rattle.bits.specs.Words.{bit_at}
use Rattle.bits.specs.Rows.{Row, ◌⊻◌, has_at, part, added}
use Rattle.gf2.specs.Solve.{clear_at}
use Rattle.gf2.specs.Inner.{over}
use Rattle.bits.proofs.RowXor.{length-⊻}
use Rattle.bits.proofs.RowLaws.{length_part, get_or_part}
use Rattle.bits.proofs.RowsWritten.{added-fits}

-- bit j of word k of the row at a
has_at-part : (l : List ℕ) (a w k j : ℕ) → k < w → has_at k j (part w a l) ≡ eqb (bit_at (get_or l (a + k) 0) j) 1
unfolding has_at
has_at-part l a w k j h = rw (get_or_part l a w k h) refl

clear_hit : (l : List ℕ) (a w k j : ℕ) (e : Row) → k < w → bit_at (get_or l (a + k) 0) j ≡ 1 → clear_at k j e (part w a l) ≡ part w a l ⊻ e
unfolding clear_at
clear_hit l a w k j e h q = rw (has_at-part l a w k j h ∙ eq-eqb (bit_at (get_or l (a + k) 0) j) 1 q) refl

clear_miss : (l : List ℕ) (a w k j : ℕ) (e : Row) → k < w → (bit_at (get_or l (a + k) 0) j ≡ 1 → ⊥) → clear_at k j e (part w a l) ≡ part w a l
unfolding clear_at
clear_miss l a w k j e h q = rw (has_at-part l a w k j h ∙ ne_eqb (bit_at (get_or l (a + k) 0) j) 1 q) refl

-- what is done, and what is to do: n rows from a on
abbrev pub togo : ℕ → ℕ → (Row → Row) → List ℕ → ℕ → List ℕ
togo w n f l a = take a l ++ over w n f (drop a l)

sweep_hit : (l v x : List ℕ) (a w n : ℕ) (f : Row → Row) → 0 < n → a + w ≤ length l → f (part w a l) ≡ x → length x ≡ w → v ≡ paste l a x w
    → togo w (n - 1) f v (a + w) ≡ togo w n f l a
unfolding over
sweep_hit l v x a w zero f p h e m q = absurd (omega arith)
sweep_hit l v x a w (suc n) f p h e m q =
    let s : suc n - 1 ≡ n = omega arith in
    let t : take w x ≡ x = take_all w x (omega arith) in
    rw (s, q, take-paste l a x w (omega arith) (omega arith), drop-paste l a x w (omega arith) (omega arith), t, e, drop-drop w a l)
    (append_assoc (take a l) x (over w n f (drop (a + w) l)))

sweep_miss : (l : List ℕ) (a w n : ℕ) (f : Row → Row) → 0 < n → f (part w a l) ≡ part w a l → togo w (n - 1) f l (a + w) ≡ togo w n f l a
unfolding over
sweep_miss l a w zero f p e = absurd (omega arith)
sweep_miss l a w (suc n) f p e =
    let s : suc n - 1 ≡ n = omega arith in
    rw (s, e, take-add a w l, drop-drop w a l) (append_assoc (take a l) (part w a l) (over w n f (drop (a + w) l)))

-- a turn of a sweep: the row at a has the bit and e was added to it, or has it not
abbrev pub Turn : List ℕ → List ℕ → Row → ℕ → ℕ → ℕ → ℕ → Type 0
Turn l v e a w k j = ((bit_at (get_or l (a + k) 0) j ≡ 1) × (v ≡ paste l a (part w a l ⊻ e) w)) ⊎ ((bit_at (get_or l (a + k) 0) j ≡ 1 → ⊥) × (v ≡ l))

turn_togo : (l v : List ℕ) (e : Row) (a w k j n : ℕ) → 0 < n → k < w → a + w ≤ length l → length e ≡ w → Turn l v e a w k j
    → togo w (n - 1) (clear_at k j e) v (a + w) ≡ togo w n (clear_at k j e) l a
turn_togo l v e a w k j n p hk h m (inl t) =
    sweep_hit l v (part w a l ⊻ e) a w n (clear_at k j e) p h (clear_hit l a w k j e hk t.0) (length-⊻ (part w a l) e w (length_part l a w h) m) t.1
turn_togo l v e a w k j n p hk h m (inr t) =
    rw t.1 (sweep_miss l a w n (clear_at k j e) p (clear_miss l a w k j e hk t.0))

pub togo_none : (w n : ℕ) (f : Row → Row) (l : List ℕ) (a : ℕ) → n ≡ 0 → togo w n f l a ≡ l
unfolding over
togo_none w n f l a e = rw e (take-append-drop a l)

-- the rows behind row i of the whole rows of n words
pub rows_behind : (n i w : ℕ) → i < n / w → i * w + w + (n / w - i - 1) * w ≤ n
rows_behind n i w h =
    let k = n / w - i - 1 in
    let e : n / w ≡ i + suc k = omega arith in
    let p : i * w + w + k * w ≡ (i + suc k) * w = omega arith in
    let q = div-mul-le_self n w in
    let r : (i + suc k) * w ≡ n / w * w = ap (λ (x : ℕ). x * w) (sym e) in omega arith

-- a row added
pub added_row : (l row : List ℕ) (a : ℕ) → a + length row ≤ length l → added l a row 0 (length row) ≡ paste l a (part (length row) a l ⊻ row) (length row)
added_row l row a h =
    added-fits l a row 0 (length row) h (omega arith) ∙ ap (λ (x : Row). paste l a (part (length row) a l ⊻ x) (length row)) (take_all (length row) row (omega arith))

-- a turn of `sweep`, and its end: of n rows of l those from row i on are to do, the first of them at a
module _ (l row : List ℕ) (n i a k j : ℕ) where
  pub sweep_next : (v : List ℕ) → i < n → k < length row → a + length row ≤ length l → Turn l v row a (length row) k j
      → togo (length row) (n - (i + 1)) (clear_at k j row) v (a + length row) ≡ togo (length row) (n - i) (clear_at k j row) l a
  sweep_next v h q r t =
      let p : n - (i + 1) ≡ n - i - 1 = omega arith in
      rw p (turn_togo l v row a (length row) k j (n - i) (omega arith) q r refl t)

  pub sweep_end : n ≤ i → togo (length row) (n - i) (clear_at k j row) l a ≡ l
  sweep_end h = togo_none (length row) (n - i) (clear_at k j row) l a (omega arith)
