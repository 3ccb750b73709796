-- The descent of a whole word: what it asks, and what the slices hold after it.
--     marked_is, marked_next        the model on the marks is that on the word; how many unknowns it finds
--     rows_here, rows_room          what N symbols ask of a block
--     ready_positions, ready_marks  what fits together
--     used                          the equations lie within their slice
--     rows_run, filled_up           the slices are the model's rows, one after the other, and zeros behind the equations
use mathlib.Core.Path.{◌≡◌, refl, sym, ap, ap₂, ◌∙◌, subst}
use Prim.Native.Nat.{ℕ, zero, suc, ◌+◌, ◌-◌, ◌*◌, ◌^◌, ◌≤◌}
use native.Mathlib.Omega.{arith}
use native.Mathlib.Nat.{zero-add, mul-le-mul_right}
use mathlib.Core.List.{List, ◌++◌, flatten}
use mathlib.Core.Option.{Option}
use lib.ListN.{length, take, get_or, replicate}
use lib.Seq.{take_all}
use borrow.Rule.Slice.PartMut.{put_mid}
use Rattle.bits.specs.Vectors.{tab}
use Rattle.bits.specs.Rows.{Row, row, rows}
use Rattle.bits.proofs.Parts.{back}
use Rattle.bits.proofs.Tests.{length-tab, tab_below}
use Rattle.bits.proofs.RowLaws.{flatten-rows}
use Rattle.meaning.specs.Limits.{mask_bytes}
use Rattle.meaning.specs.Sheet.{rule_at, rules}
use Rattle.meaning.specs.Open.{unknowns}
use Rattle.sheet.proofs.Shapes.{size-most}
use Rattle.model.specs.Model.{Out, start, decode}
use Rattle.model.proofs.Steps.{decode-most}
use Rattle.model.proofs.RowValues.{rows_next}
use Rattle.model.specs.RowValues.{held}
use Rattle.descent.specs.declared.leaf.Mark.{Mark}
use Rattle.descent.specs.declared.leaf.Shape.{Shape}
use Rattle.descent.specs.declared.leaf.Tally.{Tally}
use Rattle.descent.specs.Block.{slot_of, sym_at, syms, values_of, walk_of, out_of, decoded, Room, Here, mark_of, Marked}
use Rattle.descent.specs.Descending.{widest, found, Ready, Filled}

slot_held : (s : ℕ) (x : Row) → slot_of (mark_of s) x ≡ held s x
slot_held zero x = refl
slot_held (suc zero) x = refl
slot_held (suc (suc s)) x = refl

pub marked_is : (s : Shape) (n : ℕ) (sheet word v : List ℕ) (m : List Mark) → length m ≡ length word → Marked (length word) word m → decoded s sheet n m v start ≡ found n sheet word s.coeffs s.words v
marked_is s n sheet word v m l p =
    let w = s.words in
    ap (λ (x : List (Option Row)). decode (values_of s) (rule_at sheet) n x start)
    (ap (λ (i : ℕ). tab i (sym_at w m v)) l
    ∙ tab_below (length word) (sym_at w m v) (λ (j : ℕ). held (get_or word j 2) (row w v j)) (λ j h. ap (λ (a : Mark). slot_of a (row w v j)) (p.slot j h) ∙ slot_held (get_or word j 2) (row w v j)))

-- what N symbols ask of a block
module _ (s : Shape) (n : ℕ) (sheet v us es : List ℕ) (m : List Mark) where
  abbrev whole : Out Row
  whole = decoded s sheet n m v start

  pub whole-most : length whole.after.eqs ≤ 2 ^ n
  whole-most = omega (arith, decode-most (values_of s) (rule_at sheet) n (syms s.words (length m) m v) start)

  pub rows_here : Ready n (length sheet) (length m) s.coeffs s.words (length v) (length us) (length es) → Here s 0 (length m) sheet v us
  rows_here r =
      let l = r.symbols in
      let z : 0 + length m ≡ 2 ^ n = zero-add (length m) ∙ l in
      let f = size-most n (length m) r.small l in
      record {
        below = omega (arith, f);
        records = rw (z, r.records) (omega arith);
        rows_v = r.rows_v ∙ ap (λ (i : ℕ). i * s.words) (sym l);
        rows_u = rw (z, r.rows_u) (omega arith);
        constant = r.constant;
      }

  pub rows_room : Ready n (length sheet) (length m) s.coeffs s.words (length v) (length us) (length es) → whole.after.next ≤ 64 * s.coeffs → Room s whole (length es)
  unfolding widest
  rows_room r few =
      let e : length whole.after.eqs * s.words ≤ 2 ^ n * s.words = mul-le-mul_right s.words whole-most in
      record { unknowns = few; equations = omega (arith, e, r.rows_e); small = omega (arith, r.narrow, r.constant) }

-- ---- room

-- as many unknowns as there are open free positions
pub marked_next : (c w n : ℕ) (sheet word vals : List ℕ) → length word ≡ 2 ^ n → (found n sheet word c w vals).after.next ≡ unknowns n (rules n sheet) word
unfolding rules
marked_next c w n sheet word vals l = rows_next c w (rule_at sheet) n word (row w vals) l

-- ---- what fits together

module _ {n s d c w v u e : ℕ} (r : Ready n s d c w v u e) where
  pub ready_positions : d ≤ 8 * mask_bytes
  ready_positions = size-most n d r.small r.symbols

-- a word's marks in place of the word
pub ready_marks : {n s d c w v u e : ℕ} → Ready n s d c w v u e → (k : ℕ) → k ≡ d → Ready n s k c w v u e
ready_marks {n} {s} {d} {c} {w} {v} {u} {e} r k l = subst (λ (i : ℕ). Ready n s i c w v u e) (sym l) r

-- ---- the slices

-- N rows that are the model's
pub rows_run : (w n : ℕ) (rs : List Row) (v : List ℕ) (k : ℕ) → k ≡ 2 ^ n → length v ≡ 2 ^ n * w → rows w k v ≡ rs → v ≡ flatten rs
rows_run w n rs v k e l h =
    let q : length v ≤ k * w = rw e (omega arith) in
    sym (take_all (k * w) v q) ∙ sym (flatten-rows w k v) ∙ ap flatten h

module _ (w n : ℕ) (o : Out Row) (few : length o.after.eqs ≤ 2 ^ n) (k₀ : ℕ) (lk : k₀ ≡ 2 ^ n) (v u es : List ℕ) (t : Tally) (at : t.at ≡ 0 + k₀) (h : out_of w k₀ v (walk_of w u t es) ≡ o) where
  -- the number of equations
  many : t.eqs ≡ length o.after.eqs
  many = sym (length-tab t.eqs (row w es)) ∙ ap (λ (o : Out Row). length o.after.eqs) h

  -- their words lie within those that the slice has
  pub used : (l : ℕ) → 2 ^ n * w ≤ l → t.eqs * w ≤ l
  used l q = let e : t.eqs * w ≤ 2 ^ n * w = mul-le-mul_right w (omega (arith, many)) in omega arith

  -- u' and es' are what the slices hold in the end, and the last part of es' is filled by f
  pub filled_up : (u' es' f : List ℕ) (l : ℕ) → length v ≡ 2 ^ n * w → length u ≡ 2 ^ n * w → length es ≡ l → u' ≡ u → es' ≡ es → f ≡ replicate (l - t.eqs * w) 0
      → Filled l w o v u' (put_mid (t.eqs * w) (length es' - t.eqs * w) es' f) t.eqs
  filled_up u' es' f l lv lu le eu ee ef =
      let k = t.eqs * w in
      record {
        vals = rows_run w n o.block v k₀ lk lv (ap (λ (o : Out Row). o.block) h);
        us = eu ∙ rows_run w n o.after.us u t.at (omega (arith, at, lk)) lu (ap (λ (o : Out Row). o.after.us) h);
        eqs = back es' f k ∙ ap₂ (λ (x y : List ℕ). x ++ y) (ap (take k) ee ∙ sym (flatten-rows w t.eqs es) ∙ ap (λ (o : Out Row). flatten o.after.eqs) h) ef;
        many = many;
      }
