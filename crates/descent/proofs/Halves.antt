-- The steps of a call on a block of two halves of h slots each are the model's. The rows v of the block are l and r, and its
-- marks m are p and q.
--     Halved, halved                   a block's halves
--     left_room                        room for both halves is room for the left one
--     both_is, whole-done              the block after the left half has come back, and after the right half
use mathlib.Core.Path.{◌≡◌, refl, sym, ap, ap₂, ◌∙◌}
use Prim.Native.Nat.{ℕ, zero, suc, ◌+◌, ◌-◌, ◌*◌, ◌/◌, ◌^◌, ◌≤◌, ◌<◌}
use native.Mathlib.Omega.{arith}
use native.Mathlib.Nat.{mul-le-mul_right, add-mul}
use mathlib.Core.List.{List, [], ◌∷◌, ◌++◌}
use mathlib.Core.Option.{Option}
use lib.ListN.{length, take, drop, length-append, length-drop}
use lib.Seq.{length-take-le, get_or-drop, get_or-take}
use Rattle.bits.specs.Vectors.{tab}
use Rattle.bits.specs.Rows.{Row, ◌⊻◌, row, rows}
use Rattle.bits.proofs.Parts.{half_of}
use Rattle.bits.proofs.Tests.{length-tab, tab_below, tab_append}
use Rattle.bits.proofs.RowLaws.{row-take, row_drop, rows_append}
use Rattle.meaning.specs.Sheet.{Rule, rule_at}
use Rattle.model.specs.Model.{Values, Walk, Out, sums, left_sym, right_sym, left_syms, right_syms, join_out, decode}
use Rattle.model.proofs.Relate.{decode_grows}
use Rattle.model.proofs.Steps.{decode_halves, decode-behind}
use Rattle.descent.specs.declared.leaf.Mark.{Mark}
use Rattle.descent.specs.declared.leaf.Mark.TheVariants.{Erased}
use Rattle.descent.specs.declared.leaf.Shape.{Shape}
use Rattle.descent.specs.Block.{slot_of, mark_at, sym_at, syms, values_of, out_of, decoded, Room, Parted, Settled, Joined}

-- ---- the model on lists by place

module _ {A : Type 0} (𝓥 : Values A) where
  sums-tab : (n : ℕ) (f g : ℕ → A) → sums 𝓥 (tab n f) (tab n g) ≡ tab n (λ (i : ℕ). 𝓥.plus (f i) (g i))
  sums-tab zero f g = refl
  sums-tab (suc n) f g = ap {B = List A} (λ (r : List A). 𝓥.plus (f 0) (g 0) ∷ r) (sums-tab n (λ (i : ℕ). f (suc i)) (λ (i : ℕ). g (suc i)))

  left-tab : (n : ℕ) (f g : ℕ → Option A) → left_syms 𝓥 (tab n f) (tab n g) ≡ tab n (λ (i : ℕ). left_sym 𝓥 (f i) (g i))
  left-tab zero f g = refl
  left-tab (suc n) f g = ap {B = List (Option A)} (λ (r : List (Option A)). left_sym 𝓥 (f 0) (g 0) ∷ r) (left-tab n (λ (i : ℕ). f (suc i)) (λ (i : ℕ). g (suc i)))

  right-tab : (n : ℕ) (f g : ℕ → Option A) (x : ℕ → A) → right_syms 𝓥 (tab n f) (tab n g) (tab n x) ≡ tab n (λ (i : ℕ). right_sym 𝓥 (f i) (g i) (x i))
  right-tab zero f g x = refl
  right-tab (suc n) f g x = ap {B = List (Option A)} (λ (r : List (Option A)). right_sym 𝓥 (f 0) (g 0) (x 0) ∷ r) (right-tab n (λ (i : ℕ). f (suc i)) (λ (i : ℕ). g (suc i)) (λ (i : ℕ). x (suc i)))

  -- equations are only added
  decode_adds : (rule : ℕ → Rule) (n : ℕ) (w : List (Option A)) (s : Walk A) → length s.eqs ≤ length (decode 𝓥 rule n w s).after.eqs
  decode_adds rule n w s =
      let e = ap (λ (o : Out A). length o.after.eqs) (decode-behind 𝓥 rule n w s.us s.next s.eqs) in
      let l = length-append s.eqs (decode 𝓥 rule n w (record { us = s.us; next = s.next; eqs = [] })).after.eqs in
      omega (arith, e, l)

-- ---- a block of h and h

pub record Halved (w k h : ℕ) (v l r : List ℕ) (m p q : List Mark) : Type 0 where
  pub up : k ≡ suc (k - 1)
  pub half : h ≡ 2 ^ (k - 1)
  pub both : length m ≡ h + h
  pub l_is : l ≡ take (h * w) v
  pub r_is : r ≡ drop (h * w) v
  pub p_is : p ≡ take h m
  pub q_is : q ≡ drop h m
  pub len_v : length v ≡ h * w + h * w
  pub len_l : length l ≡ h * w
  pub len_r : length r ≡ h * w
  pub len_p : length p ≡ h
  pub len_q : length q ≡ h

pub halved : (w k : ℕ) (v l r : List ℕ) (m p q : List Mark) → (k ≡ 0 → ⊥) → length m ≡ 2 ^ k → length v ≡ length m * w
    → l ≡ take (length m / 2 * w) v → r ≡ drop (length m / 2 * w) v → p ≡ take (length m / 2) m → q ≡ drop (length m / 2) m → Halved w k (length m / 2) v l r m p q
halved w k v l r m p q z em ev el er ep eq =
    let h = length m / 2 in
    let (a, b) = half_of k (length m) z em in
    let lv : length v ≡ h * w + h * w = ev ∙ ap (λ (x : ℕ). x * w) a ∙ add-mul h h w in
    record {
      up = omega arith;
      half = b;
      both = a;
      l_is = el;
      r_is = er;
      p_is = ep;
      q_is = eq;
      len_v = lv;
      len_l = ap length el ∙ length-take-le (h * w) v (omega arith);
      len_r = ap length er ∙ length-drop (h * w) v ∙ omega arith;
      len_p = ap length ep ∙ length-take-le h m (omega arith);
      len_q = ap length eq ∙ length-drop h m ∙ omega arith;
    }

module _ (s : Shape) (k h : ℕ) (sheet : List ℕ) (v l r : List ℕ) (m p q : List Mark) (H : Halved s.words k h v l r m p q) where
  abbrev n : ℕ
  n = k - 1

  abbrev w : ℕ
  w = s.words

  abbrev 𝓡 : Values Row
  𝓡 = values_of s

  abbrev lefts : List (Option Row)
  lefts = tab h (sym_at w p l)

  abbrev rights : List (Option Row)
  rights = tab h (sym_at w q r)

  left_at : (j : ℕ) → j < h → sym_at w m v j ≡ sym_at w p l j
  left_at j b =
      sym (ap₂ slot_of (ap (λ (x : List Mark). mark_at x j) H.p_is ∙ get_or-take h m j Erased b) (ap (λ (x : List ℕ). row w x j) H.l_is ∙ row-take w h v (omega (arith, H.len_v)) j b))

  right_at : (j : ℕ) → sym_at w m v (h + j) ≡ sym_at w q r j
  right_at j = sym (ap₂ slot_of (ap (λ (x : List Mark). mark_at x j) H.q_is ∙ get_or-drop h m j Erased) (ap (λ (x : List ℕ). row w x j) H.r_is ∙ row_drop w h v (omega (arith, H.len_v)) j))

  slots_are : syms w (length m) m v ≡ lefts ++ rights
  slots_are =
      ap (λ (i : ℕ). tab i (sym_at w m v)) H.both ∙ tab_append h h (sym_at w m v)
      ∙ ap₂ (λ (x y : List (Option Row)). x ++ y) (tab_below h (sym_at w m v) (sym_at w p l) left_at) (tab_below h (λ (j : ℕ). sym_at w m v (h + j)) (sym_at w q r) (λ j b. right_at j))

  -- the model, by halves
  by_halves : (a : Walk Row) → decoded s sheet k m v a ≡ (let o = decode 𝓡 (rule_at sheet) n (left_syms 𝓡 lefts rights) a in join_out 𝓡 o (decode 𝓡 (rule_at sheet) n (right_syms 𝓡 lefts rights o.block) o.after))
  by_halves a =
      ap₂ (λ (i : ℕ) (x : List (Option Row)). decode 𝓡 (rule_at sheet) i x a) H.up slots_are
      ∙ decode_halves 𝓡 (rule_at sheet) n lefts rights (length-tab h (sym_at w p l) ∙ H.half) a

  module _ (l₁ r₁ : List ℕ) (p₁ q₁ : List Mark) (len₁ : length p₁ ≡ h) (parted : Parted w h l r p q l₁ r₁ p₁ q₁) where
    -- what the left half is given
    left_is : left_syms 𝓡 lefts rights ≡ syms w (length p₁) p₁ l₁
    left_is =
        left-tab 𝓡 h (sym_at w p l) (sym_at w q r)
        ∙ tab_below h (λ (j : ℕ). left_sym 𝓡 (sym_at w p l j) (sym_at w q r j)) (sym_at w p₁ l₁) (λ j b. sym ((parted.slots j b).left s.coeffs))
        ∙ ap (λ (i : ℕ). tab i (sym_at w p₁ l₁)) (sym len₁)

    abbrev left_out : Walk Row → Out Row
    left_out a = decoded s sheet n p₁ l₁ a

    whole_is : (a : Walk Row) → decoded s sheet k m v a ≡ join_out 𝓡 (left_out a) (decode 𝓡 (rule_at sheet) n (right_syms 𝓡 lefts rights (left_out a).block) (left_out a).after)
    whole_is a = by_halves a ∙ ap (λ (x : List (Option Row)). let o = decode 𝓡 (rule_at sheet) n x a in join_out 𝓡 o (decode 𝓡 (rule_at sheet) n (right_syms 𝓡 lefts rights o.block) o.after)) left_is

    pub left_room : (a : Walk Row) (lim : ℕ) → Room s (decoded s sheet k m v a) lim → Room s (left_out a) lim
    left_room a lim R =
        let x = ap (λ (o : Out Row). o.after.next) (whole_is a) in
        let y = ap (λ (o : Out Row). length o.after.eqs) (whole_is a) in
        let f = decode_grows 𝓡 (rule_at sheet) n (right_syms 𝓡 lefts rights (left_out a).block) (left_out a).after in
        let g = decode_adds 𝓡 (rule_at sheet) n (right_syms 𝓡 lefts rights (left_out a).block) (left_out a).after in
        let e : length (left_out a).after.eqs * w ≤ length (decoded s sheet k m v a).after.eqs * w = mul-le-mul_right w (omega (arith, y, g)) in
        record { unknowns = omega (arith, x, f, R.unknowns); equations = omega (arith, e, R.equations); small = R.small }

    -- after the left half has come back
    module _ (vL r₂ : List ℕ) (q₂ : List Mark) (len₂ : length q₂ ≡ h) (settled : Settled w h vL r₁ q₁ r₂ q₂) where
      -- what the right half is given
      right_is : right_syms 𝓡 lefts rights (rows w h vL) ≡ syms w (length q₂) q₂ r₂
      right_is =
          right-tab 𝓡 h (sym_at w p l) (sym_at w q r) (row w vL)
          ∙ tab_below h (λ (j : ℕ). right_sym 𝓡 (sym_at w p l j) (sym_at w q r j) (row w vL j)) (sym_at w q₂ r₂) (λ j b.
          sym ((parted.slots j b).right s.coeffs (row w vL j)) ∙ sym (settled.slots j b))
          ∙ ap (λ (i : ℕ). tab i (sym_at w q₂ r₂)) (sym len₂)

      module _ (a a₁ : Walk Row) (back : out_of w h vL a₁ ≡ left_out a) where
        abbrev right_out : Out Row
        right_out = decoded s sheet n q₂ r₂ a₁

        pub both_is : decoded s sheet k m v a ≡ join_out 𝓡 (out_of w h vL a₁) right_out
        both_is =
            whole_is a ∙ ap (λ (o : Out Row). join_out 𝓡 o (decode 𝓡 (rule_at sheet) n (right_syms 𝓡 lefts rights o.block) o.after)) (sym back)
            ∙ ap (λ (x : List (Option Row)). join_out 𝓡 (out_of w h vL a₁) (decode 𝓡 (rule_at sheet) n x a₁)) right_is

        -- after the right half has come back
        pub whole-done : (vR l₃ : List ℕ) (a₂ : Walk Row) → length l₃ ≡ h * w → Joined w h vL vR l₃ → out_of w h vR a₂ ≡ right_out → out_of w (length m) (l₃ ++ vR) a₂ ≡ decoded s sheet k m v a
        whole-done vR l₃ a₂ len₃ joined b =
            let x : rows w h l₃ ≡ sums 𝓡 (rows w h vL) (rows w h vR) = tab_below h (row w l₃) (λ (j : ℕ). row w vL j ⊻ row w vR j) joined.slots ∙ sym (sums-tab 𝓡 h (row w vL) (row w vR)) in
            let d : rows w (length m) (l₃ ++ vR) ≡ sums 𝓡 (rows w h vL) (rows w h vR) ++ rows w h vR =
            ap (λ (i : ℕ). rows w i (l₃ ++ vR)) H.both ∙ rows_append w h h l₃ vR len₃ ∙ ap {B = List Row} (λ (y : List Row). y ++ rows w h vR) x in
            ap (λ (y : List Row). record { block = y; after = a₂ }) d ∙ ap (λ (o : Out Row). join_out 𝓡 (out_of w h vL a₁) o) b ∙ sym both_is
