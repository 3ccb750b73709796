-- One position: what fill and position leave is the model's step.
--     fill-.., next-.., hold-..  an erased symbol and a known one, at a free position and at a frozen one
--     leaf_is, leaf_done         a block of one position, and what the position leaves
use mathlib.Core.Path.{◌≡◌, refl, sym, ap, ap₂, ◌∙◌}
use Prim.Native.Nat.{ℕ, suc, ◌+◌, ◌*◌, ◌≤◌, ◌<◌}
use native.Mathlib.Omega.{arith}
use native.Mathlib.Nat.{mul-le-mul_left}
use native.Mathlib.Numerals.{add-one}
use mathlib.Core.Bool.{Bool, true, false}
use mathlib.Core.List.{List, [], ◌∷◌, ◌++◌, append-nil}
use mathlib.Core.Option.{Option, some}
use lib.ListN.{length, length-append}
use lib.Seq.{paste, take_all}
use Rattle.bits.specs.Rows.{Row, ◌⊻◌, part, row, rows, added, copied}
use Rattle.bits.proofs.Tests.{length-tab}
use Rattle.bits.proofs.RowLaws.{row_zero}
use Rattle.bits.proofs.RowXor.{length-⊻, ⊻-comm}
use Rattle.bits.proofs.RowsWritten.{paste-part, paste_again, paste_all, length-written, rows-put, added-fits, copied-fits}
use Rattle.meaning.specs.Sheet.{Rule, free, frozen, rule_at}
use Rattle.model.specs.Model.{Walk, rule_value, value_at, next_at, eqs_at, decode}
use Rattle.model.proofs.Steps.{decode_one}
use Rattle.model.specs.RowValues.{unknown_row, row_values}
use Rattle.descent.specs.declared.leaf.Mark.{Mark}
use Rattle.descent.specs.declared.leaf.Shape.{Shape}
use Rattle.descent.specs.declared.leaf.Tally.{Tally}
use Rattle.descent.specs.Block.{is_known, slot_of, mark_at, sym_at, syms, values_of, walk_of, out_of, decoded, stepped}
use Rattle.descent.proofs.Slots.{slot-known, slot-erased}

-- ---- an erased symbol

module _ (c w k : ℕ) (mark : Mark) (v : List ℕ) (rs : List Row) (q : Rule) (z : is_known mark ≡ false) where
  pub fill-free : (v' : List ℕ) → q ≡ free → length v ≡ w → v' ≡ unknown_row (length v) k → v' ≡ value_at (row_values c w) q (slot_of mark v) rs k
  fill-free v' f l h = rw (slot-erased mark v z, f) (h ∙ ap (λ (i : ℕ). unknown_row i k) l)

  pub fill-frozen : (v' : List ℕ) (b : Bool) (m : List Bool) → q ≡ frozen b m → length v ≡ w → length (rule_value (row_values c w) b m rs) ≡ w
      → v' ≡ paste v 0 (rule_value (row_values c w) b m rs) w → v' ≡ value_at (row_values c w) q (slot_of mark v) rs k
  fill-frozen v' b m f l lr h = rw (slot-erased mark v z, f) (h ∙ paste_all v (rule_value (row_values c w) b m rs) w l lr)

-- how many unknowns there are then
module _ (k : ℕ) (mark : Mark) (v : List ℕ) (q : Rule) (z : is_known mark ≡ false) where
  pub next-free : q ≡ free → k + 1 ≡ next_at q (slot_of mark v) k
  next-free f = rw (slot-erased mark v z, f) (add-one k)

  pub next_frozen : (b : Bool) (m : List Bool) → q ≡ frozen b m → k ≡ next_at q (slot_of mark v) k
  next_frozen b m f = rw (slot-erased mark v z, f) refl

-- ---- a known symbol

module _ (c w : ℕ) (mark : Mark) (v : List ℕ) (rs : List Row) (q : Rule) (z : is_known mark ≡ true) where
  pub hold_free : q ≡ free → (es : List Row) → es ≡ es ++ eqs_at (row_values c w) q (slot_of mark v) rs
  hold_free f es = rw (slot-known mark v z, f) (sym (append-nil es))

  module _ (e : ℕ) (es : List ℕ) (b : Bool) (m : List Bool) (f : q ≡ frozen b m) where
    pub hold_room : length (rows w e es ++ eqs_at (row_values c w) q (slot_of mark v) rs) * w ≤ length es → e * w + w ≤ length es
    hold_room h =
        let a : length (rows w e es ++ eqs_at (row_values c w) q (slot_of mark v) rs) ≡ e + 1 =
        ap₂ (λ (x : Rule) (y : Option Row). length (rows w e es ++ eqs_at (row_values c w) x y rs)) f (slot-known mark v z)
        ∙ length-append (rows w e es) (eqs_at (row_values c w) (frozen b m) (some v) rs) ∙ ap (λ (i : ℕ). i + 1) (length-tab e (row w es)) in
        let g : (e + 1) * w ≤ length es = rw a at h in
        omega arith

    pub hold_frozen : (es₁ es₂ : List ℕ) → length v ≡ w → length (rule_value (row_values c w) b m rs) ≡ w → e * w + w ≤ length es
        → es₁ ≡ paste es (e * w) (rule_value (row_values c w) b m rs) w
        → es₂ ≡ added es₁ (e * w) v 0 w
        → rows w (e + 1) es₂ ≡ rows w e es ++ eqs_at (row_values c w) q (slot_of mark v) rs
    hold_frozen es₁ es₂ lv lr room h₁ h₂ =
        let R : Row = rule_value (row_values c w) b m rs in
        let l₁ : length es₁ ≡ length es = ap length h₁ ∙ length-written es R (e * w) w room lr in
        let r : part w (e * w) es₁ ≡ R = ap (part w (e * w)) h₁ ∙ paste-part es R (e * w) w room lr in
        let t : part w 0 v ≡ v = take_all w v (omega arith) in
        let p : es₂ ≡ paste es (e * w) (v ⊻ R) w =
        h₂ ∙ added-fits es₁ (e * w) v 0 w (omega arith) (omega arith) ∙ ap₂ (λ (x y : Row). paste es₁ (e * w) (x ⊻ y) w) r t
        ∙ ap₂ (λ (l : List ℕ) (x : Row). paste l (e * w) x w) h₁ (⊻-comm R v) ∙ paste_again es R (e * w) w room lr (v ⊻ R) in
        rw (slot-known mark v z, f) (rows-put w e es es₂ (v ⊻ R) room (length-⊻ v R w lv lr) p)

pub few : (e w n : ℕ) → 0 < w → e * w + w ≤ n → e + 1 ≤ n
few e w n p h = let q : suc e * 1 ≤ suc e * w = mul-le-mul_left (suc e) p in omega arith

-- ---- the position

module _ (s : Shape) (t : Tally) (sheet v us es : List ℕ) (lv : length v ≡ s.words) where
  abbrev before : Walk Row
  before = walk_of s.words us t es

  -- a block of one position
  pub leaf_is : (m : List Mark) → length m ≡ 1 → decoded s sheet 0 m v before ≡ stepped s sheet t.at (mark_at m 0) v before
  leaf_is m lm =
      ap (λ (n : ℕ). decode (values_of s) (rule_at sheet) 0 (syms s.words n m v) before) lm ∙ decode_one (values_of s) (rule_at sheet) (sym_at s.words m v 0) before
      ∙ ap₂ (λ (n : ℕ) (y : Row). stepped s sheet n (mark_at m 0) y before) (length-tab t.at (row s.words us)) (row_zero s.words v lv)

  module _ (room : t.at * s.words + s.words ≤ length us) (mark : Mark) where
    abbrev meant : Row
    meant = value_at (values_of s) (rule_at sheet t.at) (slot_of mark v) (rows s.words t.at us) t.next

    pub leaf_done : (v' us' es' : List ℕ) (t' : Tally) → length v' ≡ s.words → v' ≡ meant → t'.at ≡ t.at + 1 → t'.next ≡ next_at (rule_at sheet t.at) (slot_of mark v) t.next
        → rows s.words t'.eqs es' ≡ rows s.words t.eqs es ++ eqs_at (values_of s) (rule_at sheet t.at) (slot_of mark v) (rows s.words t.at us)
        → us' ≡ copied us (t.at * s.words) v' 0 s.words
        → out_of s.words 1 v' (walk_of s.words us' t' es') ≡ stepped s sheet t.at mark v before
    leaf_done v' us' es' t' l hv ha hk he hu =
        let w = s.words in
        let a : rows w 1 v' ≡ meant ∷ [] = ap (λ (x : Row). x ∷ []) (row_zero w v' l ∙ hv) in
        let p : us' ≡ paste us (t.at * w) v' w = hu ∙ copied-fits us (t.at * w) v' 0 w room (omega arith) ∙ ap (λ (x : Row). paste us (t.at * w) x w) (take_all w v' (omega arith)) in
        let b : rows w t'.at us' ≡ rows w t.at us ++ (meant ∷ []) = ap (λ (n : ℕ). rows w n us') ha ∙ rows-put w t.at us us' v' room l p ∙ ap (λ (x : Row). rows w t.at us ++ (x ∷ [])) hv in
        λ i. record { block = a i; after = record { us = b i; next = hk i; eqs = he i } }
