-- What the calls of `decode` ask of a block.
--     leaf_room, leaf_back            a block of one position
--     ask_left, ask_right, done       what the halves ask; the block is done
use mathlib.Core.Path.{◌≡◌, sym, ap, ◌∙◌, subst}
use Prim.Native.Nat.{ℕ, ◌+◌, ◌-◌, ◌*◌, ◌^◌, ◌≤◌}
use native.Mathlib.Omega.{arith}
use native.Mathlib.Nat.{one-mul}
use mathlib.Core.List.{List, ◌++◌}
use lib.ListN.{length}
use Rattle.bits.specs.Rows.{Row, added}
use Rattle.meaning.specs.Limits.{record_bytes}
use Rattle.model.specs.Model.{Walk, join_out}
use Rattle.descent.specs.declared.leaf.Mark.{Mark}
use Rattle.descent.specs.declared.leaf.Shape.{Shape}
use Rattle.descent.specs.declared.leaf.Tally.{Tally}
use Rattle.descent.specs.Block.{mark_at, values_of, walk_of, out_of, decoded, stepped, Room, Here, Parted, Settled}
use Rattle.descent.proofs.Slots.{halves_added}
use Rattle.descent.proofs.Leaves.{leaf_is}
use Rattle.descent.proofs.Halves.{Halved, left_room, both_is, whole-done}

-- a leaf
module _ (s : Shape) (k : ℕ) (t : Tally) (sheet v us es : List ℕ) (m : List Mark) (z : k ≡ 0) (em : length m ≡ 2 ^ k) (H : Here s t.at (length m) sheet v us) where
  one : length m ≡ 1
  one = em ∙ ap (λ (x : ℕ). 2 ^ x) z

  meant : decoded s sheet k m v (walk_of s.words us t es) ≡ stepped s sheet t.at (mark_at m 0) v (walk_of s.words us t es)
  meant = ap (λ (x : ℕ). decoded s sheet x m v (walk_of s.words us t es)) z ∙ leaf_is s t sheet v us es (H.rows_v ∙ ap (λ (x : ℕ). x * s.words) one ∙ one-mul s.words) m one

  pub leaf_room : Room s (decoded s sheet k m v (walk_of s.words us t es)) (length es) → Room s (stepped s sheet t.at (mark_at m 0) v (walk_of s.words us t es)) (length es)
  leaf_room R = rw meant at R

  pub leaf_back : (v' us' es' : List ℕ) (t' : Tally) → out_of s.words 1 v' (walk_of s.words us' t' es') ≡ stepped s sheet t.at (mark_at m 0) v (walk_of s.words us t es)
      → out_of s.words (length m) v' (walk_of s.words us' t' es') ≡ decoded s sheet k m v (walk_of s.words us t es)
  leaf_back v' us' es' t' h = ap (λ (x : ℕ). out_of s.words x v' (walk_of s.words us' t' es')) one ∙ h ∙ sym meant

-- a block
module _ (s : Shape) (k h : ℕ) (t : Tally) (sheet v l r us es : List ℕ) (m p q : List Mark) (D : Halved s.words k h v l r m p q)
    (H : Here s t.at (length m) sheet v us) (R : Room s (decoded s sheet k m v (walk_of s.words us t es)) (length es))
    (l₁ r₁ : List ℕ) (p₁ q₁ : List Mark) (len_l : length l₁ ≡ length l) (len_p : length p₁ ≡ length p) (given : Parted s.words (length q) l r p q l₁ r₁ p₁ q₁) where
  abbrev w : ℕ
  w = s.words

  parted : Parted w h l r p q l₁ r₁ p₁ q₁
  parted = subst (λ (i : ℕ). Parted w i l r p q l₁ r₁ p₁ q₁) D.len_q given

  abbrev a : Walk Row
  a = walk_of w us t es

  len₁ : length p₁ ≡ h
  len₁ = len_p ∙ D.len_p

  pub ask_left : (length p₁ ≡ 2 ^ (k - 1)) × (Here s t.at (length p₁) sheet l₁ us × Room s (decoded s sheet (k - 1) p₁ l₁ a) (length es))
  unfolding record_bytes
  ask_left =
      let u : (t.at + (h + h)) * w ≤ length us = rw D.both at H.rows_u in
      let y : (t.at + h) * w ≤ length us = omega arith in (
        len₁ ∙ D.half,
        (
          record {
            below = omega (arith, H.below, D.both, len₁);
            records = omega (arith, H.records, D.both, len₁);
            rows_v = len_l ∙ D.len_l ∙ ap (λ (x : ℕ). x * w) (sym len₁);
            rows_u = rw len₁ y;
            constant = H.constant;
          },
          left_room s k h sheet v l r m p q D l₁ r₁ p₁ q₁ len₁ parted a (length es) R,
        ),
      )

  module _ (len_q₁ : length q₁ ≡ length q) (vL us₁ es₁ : List ℕ) (t₁ : Tally) (len_us : length us₁ ≡ length us) (len_es : length es₁ ≡ length es) (at₁ : t₁.at ≡ t.at + length p₁)
      (back₁ : out_of w (length p₁) vL (walk_of w us₁ t₁ es₁) ≡ decoded s sheet (k - 1) p₁ l₁ a)
      (r₂ : List ℕ) (q₂ : List Mark) (len_r : length r₂ ≡ length r) (len_q : length q₂ ≡ length q) (got : Settled w (length q₁) vL r₁ q₁ r₂ q₂) where
    settled : Settled w h vL r₁ q₁ r₂ q₂
    settled = subst (λ (i : ℕ). Settled w i vL r₁ q₁ r₂ q₂) (len_q₁ ∙ D.len_q) got

    abbrev a₁ : Walk Row
    a₁ = walk_of w us₁ t₁ es₁

    len₂ : length q₂ ≡ h
    len₂ = len_q ∙ D.len_q

    back : out_of w h vL a₁ ≡ decoded s sheet (k - 1) p₁ l₁ a
    back = ap (λ (x : ℕ). out_of w x vL a₁) (sym len₁) ∙ back₁

    both : decoded s sheet k m v a ≡ join_out (values_of s) (out_of w h vL a₁) (decoded s sheet (k - 1) q₂ r₂ a₁)
    both = both_is s k h sheet v l r m p q D l₁ r₁ p₁ q₁ len₁ parted vL r₂ q₂ len₂ settled a a₁ back

    pub ask_right : (length q₂ ≡ 2 ^ (k - 1)) × (Here s t₁.at (length q₂) sheet r₂ us₁ × Room s (decoded s sheet (k - 1) q₂ r₂ a₁) (length es₁))
    unfolding record_bytes
    ask_right =
        let u : (t.at + (h + h)) * w ≤ length us = rw D.both at H.rows_u in
        let i : t₁.at + length q₂ ≡ t.at + (h + h) = omega (arith, at₁, len₁, len₂) in
        let y : (t₁.at + length q₂) * w ≤ length us₁ = rw (i, len_us) u in
        let x = R.unknowns in
        let z = R.equations in (
          len₂ ∙ D.half,
          (
            record {
              below = omega (arith, H.below, D.both, i);
              records = omega (arith, H.records, D.both, i);
              rows_v = len_r ∙ D.len_r ∙ ap (λ (x : ℕ). x * w) (sym len₂);
              rows_u = y;
              constant = H.constant;
            },
            record { unknowns = rw both at x; equations = rw (both, ← len_es) at z; small = R.small },
          ),
        )

    pub done : (vR l₃ us₂ es₂ : List ℕ) (t₂ : Tally) → length vL ≡ h * w → length vR ≡ h * w → length l₃ ≡ h * w → l₃ ≡ added vL 0 vR 0 (h * w)
        → out_of w (length q₂) vR (walk_of w us₂ t₂ es₂) ≡ decoded s sheet (k - 1) q₂ r₂ a₁
        → out_of w (length m) (l₃ ++ vR) (walk_of w us₂ t₂ es₂) ≡ decoded s sheet k m v a
    done vR l₃ us₂ es₂ t₂ lenL lenR len₃ e b =
        whole-done s k h sheet v l r m p q D l₁ r₁ p₁ q₁ len₁ parted vL r₂ q₂ len₂ settled a a₁ back vR l₃ (walk_of w us₂ t₂ es₂) len₃
        (halves_added w h (h * w) vL vR l₃ (lenL ∙ sym lenR) lenR (sym lenR) e) (ap (λ (x : ℕ). out_of w x vR (walk_of w us₂ t₂ es₂)) (sym len₂) ∙ b)
