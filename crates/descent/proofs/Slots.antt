-- What part, settle and join do, slot by slot, and the turns of their loops. The halves have h rows of w words each.
--     part_owed                           a left slot known alone
--     settle_owed                         a right slot that is owed its left one
--     PartUpTo, SettleUpTo                the loops: done below j, as it was from j on
--     halves_added                        the right half added to the left half at once
use mathlib.Core.Path.{◌≡◌, refl, sym, ap, ap₂, ◌∙◌}
use mathlib.Core.Logic.{◌⊎◌, inl, inr}
use Prim.Native.Nat.{ℕ, ◌+◌, ◌*◌, ◌≤◌, ◌<◌}
use native.Mathlib.Omega.{arith}
use native.Mathlib.Nat.{eq-or-lt_of_le}
use mathlib.Core.Bool.{true, false}
use mathlib.Core.List.{List}
use mathlib.Core.Option.{Option, none, some}
use lib.ListN.{length, set, get_or}
use lib.Seq.{paste, take_all, get_or-set_same, get_or-set_other, ext_get_or}
use lib.Bits.{bit_xor}
use Rattle.bits.specs.Rows.{Row, ◌⊻◌, row, copied, added}
use Rattle.bits.proofs.RowLaws.{get_or_part, length-row, row_room}
use Rattle.bits.proofs.RowXor.{length-⊻, get_or-⊻}
use Rattle.bits.proofs.RowsWritten.{paste_all, row_same, row_other, copied-fits, added-fits}
use Rattle.model.specs.Model.{left_sym, right_sym}
use Rattle.model.specs.RowValues.{row_values}
use Rattle.descent.specs.declared.leaf.Mark.{Mark}
use Rattle.descent.specs.declared.leaf.Mark.TheVariants.{Erased, Known, Owed}
use Rattle.descent.specs.Block.{is_known, slot_of, due, mark_at, sym_at, Paired, PartOne, Parted, SettleOne, Settled, Joined}

-- ---- symbols

pub slot-known : (m : Mark) (x : Row) → is_known m ≡ true → slot_of m x ≡ some x
slot-known Erased x h = absurd (cc)
slot-known Known x h = refl
slot-known Owed x h = refl

pub slot-erased : (m : Mark) (x : Row) → is_known m ≡ false → slot_of m x ≡ none
slot-erased Erased x h = refl
slot-erased Known x h = absurd (cc)
slot-erased Owed x h = absurd (cc)

left-none : (c w : ℕ) (s : Option Row) → left_sym (row_values c w) s none ≡ none
left-none c w none = refl
left-none c w (some a) = refl

-- ---- slot j of both halves

module _ (w h j : ℕ) (l r : List ℕ) (ll : length l ≡ h * w) (lr : length r ≡ h * w) (hj : j < h) where
  wide : length (row w l j) ≡ w
  wide = length-row w h l ll j hj

  pub part_owed : (p q : List Mark) → length p ≡ h → length q ≡ h → is_known (mark_at p j) ≡ true → is_known (mark_at q j) ≡ false
      → (r' : List ℕ) → r' ≡ copied r (j * w) l (j * w) w → PartOne w j l r p q r' (set p j Erased) (set q j Owed)
  part_owed p q lp lq known gone r' e =
      let none_there = slot-erased (mark_at q j) (row w r j) gone in
      let ev : r' ≡ paste r (j * w) (row w l j) w = e ∙ copied-fits r (j * w) l (j * w) w (row_room w h r lr j hj) (row_room w h l ll j hj) in
      let a : mark_at (set p j Erased) j ≡ Erased = get_or-set_same p j Erased Erased (omega arith) in
      let b : mark_at (set q j Owed) j ≡ Owed = get_or-set_same q j Owed Erased (omega arith) in
      record {
        slots = record {
          left = λ c. rw (a, none_there) (sym (left-none c w (sym_at w p l j)));
          right = λ c x. rw (b, none_there, row_same w h r lr j (row w l j) r' hj wide ev, slot-known (mark_at p j) (row w l j) known) refl;
        };
        others = λ i n. (row_other w h r lr j (row w l j) r' hj wide ev i n, get_or-set_other p j i Erased Erased n, get_or-set_other q j i Owed Erased n);
      }

  pub settle_owed : (q : List Mark) → length q ≡ h → mark_at q j ≡ Owed → (r' : List ℕ) → r' ≡ added r (j * w) l (j * w) w → SettleOne w j l r q r' (set q j Known)
  settle_owed q lq owed r' e =
      let x : Row = row w r j ⊻ row w l j in
      let lx : length x ≡ w = length-⊻ (row w r j) (row w l j) w (length-row w h r lr j hj) wide in
      let ev : r' ≡ paste r (j * w) x w = e ∙ added-fits r (j * w) l (j * w) w (row_room w h r lr j hj) (row_room w h l ll j hj) in
      let b : mark_at (set q j Known) j ≡ Known = get_or-set_same q j Known Erased (omega arith) in
      record {
        slot = rw (b, row_same w h r lr j x r' hj lx ev, owed) refl;
        others = λ i n. (row_other w h r lr j x r' hj lx ev i n, get_or-set_other q j i Known Erased n);
      }

-- ---- the loops: done below j, as it was from j on

pub record PartUpTo (w j : ℕ) (l r : List ℕ) (p q : List Mark) (r' : List ℕ) (p' q' : List Mark) : Type 0 where
  pub done : (i : ℕ) → i < j → Paired w i l r p q r' p' q'
  pub rest : (i : ℕ) → j ≤ i → (row w r' i ≡ row w r i) × (mark_at p' i ≡ mark_at p i) × (mark_at q' i ≡ mark_at q i)

pub part-start : (w : ℕ) (l r : List ℕ) (p q : List Mark) → PartUpTo w 0 l r p q r p q
part-start w l r p q = record { done = λ i p. absurd (omega arith); rest = λ i p. (refl, refl, refl) }

below_suc : (i j : ℕ) → i < j + 1 → (i ≡ j) ⊎ (i < j)
below_suc i j p = let q : i ≤ j = omega arith in eq-or-lt_of_le q

pub part_turn : {w j : ℕ} {l r : List ℕ} {p q : List Mark} {r' : List ℕ} {p' q' : List Mark} {r'' : List ℕ} {p'' q'' : List Mark}
    → PartUpTo w j l r p q r' p' q' → PartOne w j l r' p' q' r'' p'' q'' → PartUpTo w (j + 1) l r p q r'' p'' q''
part_turn {w} {j} {l} {r} {p} {q} {r'} {p'} {q'} {r''} {p''} {q''} u o =
    record {
      done = λ i h. go i (below_suc i j h);
      rest = λ i h. let a = o.others i (λ z. omega arith) in let b = u.rest i (omega arith) in (a.0 ∙ b.0, a.1 ∙ b.1, a.2 ∙ b.2);
    }
  where
    go : (i : ℕ) → (i ≡ j) ⊎ (i < j) → Paired w i l r p q r'' p'' q''
    go i (inl e) =
        let b = u.rest j (omega arith) in
        let sl : sym_at w p' l j ≡ sym_at w p l j = ap (λ (m : Mark). slot_of m (row w l j)) b.1 in
        let sr : sym_at w q' r' j ≡ sym_at w q r j = ap₂ slot_of b.2 b.0 in
        rw e record {
          left = λ c. o.slots.left c ∙ ap₂ (left_sym (row_values c w)) sl sr;
          right = λ c x. o.slots.right c x ∙ ap₂ (λ (s t : Option Row). right_sym (row_values c w) s t x) sl sr;
        }
    go i (inr h) =
        let a = o.others i (λ z. omega arith) in
        record {
          left = λ c. ap₂ slot_of a.1 (ap (λ (x : Row). row w l i ⊻ x) a.0) ∙ (u.done i h).left c;
          right = λ c x. ap₂ (λ (m : Mark) (y : Row). due m y x) a.2 a.0 ∙ (u.done i h).right c x;
        }

pub part_end : {w h j : ℕ} {l r : List ℕ} {p q : List Mark} {r' : List ℕ} {p' q' : List Mark} {l' : List ℕ}
    → h ≤ j → Joined w h l r' l' → PartUpTo w j l r p q r' p' q' → Parted w h l r p q l' r' p' q'
part_end {p' = p'} k o u =
    record {
      slots = λ i b. record {
        left = λ c. ap (slot_of (mark_at p' i)) (o.slots i b) ∙ (u.done i (omega arith)).left c;
        right = λ c x. (u.done i (omega arith)).right c x;
      };
    }

pub record SettleUpTo (w j : ℕ) (l r : List ℕ) (q : List Mark) (r' : List ℕ) (q' : List Mark) : Type 0 where
  pub done : (i : ℕ) → i < j → sym_at w q' r' i ≡ due (mark_at q i) (row w r i) (row w l i)
  pub rest : (i : ℕ) → j ≤ i → (row w r' i ≡ row w r i) × (mark_at q' i ≡ mark_at q i)

pub settle_start : (w : ℕ) (l r : List ℕ) (q : List Mark) → SettleUpTo w 0 l r q r q
settle_start w l r q = record { done = λ i p. absurd (omega arith); rest = λ i p. (refl, refl) }

pub settle_turn : {w j : ℕ} {l r : List ℕ} {q : List Mark} {r' : List ℕ} {q' : List Mark} {r'' : List ℕ} {q'' : List Mark}
    → SettleUpTo w j l r q r' q' → SettleOne w j l r' q' r'' q'' → SettleUpTo w (j + 1) l r q r'' q''
settle_turn {w} {j} {l} {r} {q} {r'} {q'} {r''} {q''} u o =
    record {
      done = λ i h. go i (below_suc i j h);
      rest = λ i h. let a = o.others i (λ z. omega arith) in let b = u.rest i (omega arith) in (a.0 ∙ b.0, a.1 ∙ b.1);
    }
  where
    go : (i : ℕ) → (i ≡ j) ⊎ (i < j) → sym_at w q'' r'' i ≡ due (mark_at q i) (row w r i) (row w l i)
    go i (inl e) = let b = u.rest j (omega arith) in rw e (o.slot ∙ ap₂ (λ (m : Mark) (y : Row). due m y (row w l j)) b.1 b.0)
    go i (inr h) = let a = o.others i (λ z. omega arith) in ap₂ slot_of a.1 a.0 ∙ u.done i h

pub settle_end : {w h j : ℕ} {l r : List ℕ} {q : List Mark} {r' : List ℕ} {q' : List Mark} → h ≤ j → SettleUpTo w j l r q r' q' → Settled w h l r q r' q'
settle_end k u = record { slots = λ i b. u.done i (omega arith) }

-- ---- the right half added to the left half, as one row of h * w words

pub halves_added : (w h k : ℕ) (l r l' : List ℕ) → length l ≡ length r → length r ≡ h * w → k ≡ length r → l' ≡ added l 0 r 0 k → Joined w h l r l'
halves_added w h k l r l' same lr ek e = record { slots = λ j hj. ext_get_or 0 (row w l' j) (row w l j ⊻ row w r j) (len j hj) (λ i b. word j hj i (omega (arith, long j hj))) }
  where
    ll : length l ≡ h * w
    ll = same ∙ lr

    whole : l' ≡ l ⊻ r
    whole =
        e ∙ ap (added l 0 r 0) ek ∙ added-fits l 0 r 0 (length r) (omega arith) (omega arith)
        ∙ ap₂ (λ (x y : Row). paste l 0 (x ⊻ y) (length r)) (take_all (length r) l (omega arith)) (take_all (length r) r (omega arith))
        ∙ paste_all l (l ⊻ r) (length r) same (length-⊻ l r (length r) same refl)

    size : length l' ≡ h * w
    size = ap length whole ∙ length-⊻ l r (h * w) ll lr

    long : (j : ℕ) → j < h → length (row w l' j) ≡ w
    long j hj = length-row w h l' size j hj

    len : (j : ℕ) → j < h → length (row w l' j) ≡ length (row w l j ⊻ row w r j)
    len j hj = long j hj ∙ sym (length-⊻ (row w l j) (row w r j) w (length-row w h l ll j hj) (length-row w h r lr j hj))

    word : (j : ℕ) → j < h → (k : ℕ) → k < w → get_or (row w l' j) k 0 ≡ get_or (row w l j ⊻ row w r j) k 0
    word j hj k b =
        get_or_part l' (j * w) w k b ∙ ap (λ (x : Row). get_or x (j * w + k) 0) whole ∙ get_or-⊻ l r (j * w + k)
        ∙ ap₂ bit_xor (sym (get_or_part l (j * w) w k b)) (sym (get_or_part r (j * w) w k b)) ∙ sym (get_or-⊻ (row w l j) (row w r j) k)
