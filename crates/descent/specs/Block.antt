-- A block of rows with marks, as the symbols of the model, and what each step of the descent does to it. A half of a block is a
-- block of its own: l and r are the rows of the left half and of the right one, p and q their marks.
--     is_known                whether a slot has a row
--     slot_of, sym_at, syms   a slot, slot j, and all slots of a block as symbols
--     due                     a right slot once the left half is known
--     values_of               what the model computes with, for rows of a shape
--     walk_of, state_of, out_of   the slices as the model's states
--     decoded, stepped        the model at a block, and at one position
--     Room                    what a block finds has its place
--     Here, Half              what positions, and what the two halves of a block, ask of the slices
--     Kept                    where a descent writes, k positions later
--     Paired, .., Marked      the steps, slot by slot: r' is what became of r
use Rattle.std.specs.Prelude.{◌≡◌, ℕ, zero, suc, ◌+◌, ◌*◌, ◌^◌, ◌≤◌, ◌<◌, Bool, true, false, List, [], ◌∷◌, length, get_or}
use Rattle.std.proofs.Math.Option.{Option, none, some}
use Rattle.bits.specs.Vectors.{tab}
use Rattle.bits.specs.Rows.{Row, ◌⊻◌, row, rows}
use Rattle.meaning.specs.Limits.{record_bytes, mask_bytes}
use Rattle.meaning.specs.Sheet.{rule_at}
use Rattle.model.specs.Model.{Values, Walk, Out, left_sym, right_sym, out_at, decode}
use Rattle.model.specs.RowValues.{row_values}
use Rattle.descent.specs.declared.leaf.Course.{Course}
use Rattle.descent.specs.declared.leaf.Mark.{Mark}
use Rattle.descent.specs.declared.leaf.Mark.TheVariants.{Erased, Known, Owed}
use Rattle.descent.specs.declared.leaf.Shape.{Shape}
use Rattle.descent.specs.declared.leaf.Tally.{Tally}

abbrev pub is_known : Mark → Bool
is_known Erased = false
is_known Known = true
is_known Owed = true

abbrev pub slot_of : Mark → Row → Option Row
slot_of Erased x = none
slot_of Known x = some x
slot_of Owed x = some x

abbrev pub due : Mark → Row → Row → Option Row
due Erased r x = none
due Known r x = some r
due Owed r x = some (r ⊻ x)

-- the mark of slot j; behind the last one, as of an erased one
abbrev pub mark_at : List Mark → ℕ → Mark
mark_at m j = get_or m j Erased

abbrev pub sym_at : ℕ → List Mark → List ℕ → ℕ → Option Row
sym_at w m v j = slot_of (mark_at m j) (row w v j)

abbrev pub syms : ℕ → ℕ → List Mark → List ℕ → List (Option Row)
syms w n m v = tab n (sym_at w m v)

abbrev pub values_of : Shape → Values Row
values_of s = row_values s.coeffs s.words

abbrev pub walk_of : ℕ → List ℕ → Tally → List ℕ → Walk Row
walk_of w us t eqs = record { us = rows w t.at us; next = t.next; eqs = rows w t.eqs eqs }

abbrev pub state_of : ℕ → Course → Walk Row
state_of w c = walk_of w c.us.now c.t c.eqs.now

abbrev pub out_of : ℕ → ℕ → List ℕ → Walk Row → Out Row
out_of w h vals s = record { block = rows w h vals; after = s }

abbrev pub decoded : Shape → List ℕ → ℕ → List Mark → List ℕ → Walk Row → Out Row
decoded s sheet k marks vals a = decode (values_of s) (rule_at sheet) k (syms s.words (length marks) marks vals) a

-- position `at`, with its symbol's mark and row
abbrev pub stepped : Shape → List ℕ → ℕ → Mark → Row → Walk Row → Out Row
stepped s sheet at mark x a = out_at (values_of s) (rule_at sheet at) (slot_of mark x ∷ []) a

-- ---- what is asked

-- the unknowns have a coefficient each, and the equations a row each in n words
pub record Room (s : Shape) (o : Out Row) (n : ℕ) : Type 0 where
  pub unknowns : o.after.next ≤ 64 * s.coeffs
  pub equations : length o.after.eqs * s.words ≤ n
  pub small : 64 * s.coeffs < 2 ^ 63

-- k positions from `at` on, whose symbols have the rows v, with the sheet's records and the rows of u
pub record Here (s : Shape) (at k : ℕ) (sheet v us : List ℕ) : Type 0 where
  pub below : at + k ≤ 8 * mask_bytes
  pub records : (at + k) * record_bytes ≤ length sheet
  pub rows_v : length v ≡ k * s.words
  pub rows_u : (at + k) * s.words ≤ length us
  pub constant : s.coeffs < s.words

-- what k positions leave of where a descent writes: the same slices, and a place k further
pub record Kept (c c' : Course) (k : ℕ) : Type 0 where
  pub at : c'.t.at ≡ c.t.at + k
  pub us : length c'.us.now ≡ length c.us.now
  pub eqs : length c'.eqs.now ≡ length c.eqs.now
  pub same_us : c'.us.ghost_name ≡ c.us.ghost_name
  pub same_eqs : c'.eqs.ghost_name ≡ c.eqs.ghost_name

-- two halves of as many rows, with a mark for each of the right one
pub record Half (w : ℕ) (l r : List ℕ) (q : List Mark) : Type 0 where
  pub alike : length l ≡ length r
  pub marked : length r ≡ length q * w

-- ---- a block of h and h slots

-- slot j of both halves before they are added
pub record Paired (w j : ℕ) (l r : List ℕ) (p q : List Mark) (r' : List ℕ) (p' q' : List Mark) : Type 0 where
  pub left : (c : ℕ) → slot_of (mark_at p' j) (row w l j ⊻ row w r' j) ≡ left_sym (row_values c w) (sym_at w p l j) (sym_at w q r j)
  pub right : (c : ℕ) (x : Row) → due (mark_at q' j) (row w r' j) x ≡ right_sym (row_values c w) (sym_at w p l j) (sym_at w q r j) x

-- slot j of both halves: the left one is known where both were, the right one where one was
pub record Split (w j : ℕ) (l r : List ℕ) (p q : List Mark) (l' r' : List ℕ) (p' q' : List Mark) : Type 0 where
  pub left : (c : ℕ) → sym_at w p' l' j ≡ left_sym (row_values c w) (sym_at w p l j) (sym_at w q r j)
  pub right : (c : ℕ) (x : Row) → due (mark_at q' j) (row w r' j) x ≡ right_sym (row_values c w) (sym_at w p l j) (sym_at w q r j) x

pub record PartOne (w j : ℕ) (l r : List ℕ) (p q : List Mark) (r' : List ℕ) (p' q' : List Mark) : Type 0 where
  pub slots : Paired w j l r p q r' p' q'
  pub others : (i : ℕ) → (i ≡ j → ⊥) → (row w r' i ≡ row w r i) × (mark_at p' i ≡ mark_at p i) × (mark_at q' i ≡ mark_at q i)

pub record Parted (w h : ℕ) (l r : List ℕ) (p q : List Mark) (l' r' : List ℕ) (p' q' : List Mark) : Type 0 where
  pub slots : (j : ℕ) → j < h → Split w j l r p q l' r' p' q'

-- the right slot gets what it is owed
pub record SettleOne (w j : ℕ) (l r : List ℕ) (q : List Mark) (r' : List ℕ) (q' : List Mark) : Type 0 where
  pub slot : sym_at w q' r' j ≡ due (mark_at q j) (row w r j) (row w l j)
  pub others : (i : ℕ) → (i ≡ j → ⊥) → (row w r' i ≡ row w r i) × (mark_at q' i ≡ mark_at q i)

pub record Settled (w h : ℕ) (l r : List ℕ) (q : List Mark) (r' : List ℕ) (q' : List Mark) : Type 0 where
  pub slots : (j : ℕ) → j < h → sym_at w q' r' j ≡ due (mark_at q j) (row w r j) (row w l j)

-- the right half is added to the left half
pub record Joined (w h : ℕ) (l r l' : List ℕ) : Type 0 where
  pub slots : (j : ℕ) → j < h → row w l' j ≡ row w l j ⊻ row w r j

-- ---- a word

-- the mark of a symbol
abbrev pub mark_of : ℕ → Mark
mark_of zero = Known
mark_of (suc zero) = Known
mark_of (suc (suc s)) = Erased

-- slot j, for each j below k, has the mark of symbol j of the word
pub record Marked (k : ℕ) (word : List ℕ) (m : List Mark) : Type 0 where
  pub slot : (j : ℕ) → j < k → mark_at m j ≡ mark_of (get_or word j 2)
