-- What the functions on rows leave, from what their calls of the library leave.
--     cut                            the w words from a place on, as a range
--     xor_next, xor_all              a row added word by word: one word more; all words
--     zeroed-by, copied-by, added-by, copied_within-by     a row written as a part of its list
--     added-high, added-low          a row added to one behind it, and to one before it
use Rattle.std.proofs.Common.{◌≡◌, ℕ, ◌+◌, ◌-◌, ◌<◌, ◌≤◌, List, ◌++◌, suc, length, take, drop, set, get_or, replicate, refl, sym, ap, ap₂, ◌∙◌, arith, add-one, zero-add, append-nil, append_assoc}
use lib.Seq.{paste-suc, paste, take_all, drop-drop, drop-cons, get_or_at, length-take-le, take-append-le, drop-append-le}
use lib.ListN.{length-replicate, take-append-drop, drop_of_length-le}
use lib.Bits.{bit_xor}
use mathlib.Core.Logic.{inl, inr}
use borrow.Rule.Slice.PartMut.{put_mid}
use Rattle.std.proofs.lemmas.Slice.{put_mid-paste}
use Rattle.bits.specs.Rows.{Row, ◌⊻◌, part, zeroed, copied, added, copied_within, added_within}
use Rattle.bits.proofs.RowLaws.{Apart, part_front, length_part}
use Rattle.bits.proofs.RowXor.{length-⊻, get_or-⊻}
use Rattle.bits.proofs.RowsWritten.{zeroed-fits, copied-fits, added-fits, copied_within-fits, added_within-fits}

pub cut : (l : List ℕ) (a w : ℕ) → take (a + w - a) (drop a l) ≡ part w a l
cut l a w = let e : a + w - a ≡ w = omega arith in rw e refl

-- ---- a row added word by word

module _ (x₀ y x : List ℕ) (k : ℕ) (e : length y ≡ length x₀) (h : x ≡ take k (x₀ ⊻ y) ++ drop k x₀) where
  pub xor_next : k < length x₀ → set x k (bit_xor (get_or x k 0) (get_or y k 0)) ≡ take (k + 1) (x₀ ⊻ y) ++ drop (k + 1) x₀
  xor_next g =
      let l : length (x₀ ⊻ y) ≡ length x₀ = length-⊻ x₀ y (length x₀) refl e in
      let f : length (take k (x₀ ⊻ y)) ≡ k = length-take-le k (x₀ ⊻ y) (omega arith) in
      let here : get_or (take k (x₀ ⊻ y) ++ drop k x₀) k 0 ≡ get_or x₀ k 0 =
      rw (drop-cons x₀ k 0) (get_or_at (take k (x₀ ⊻ y)) (get_or x₀ k 0) (drop (suc k) x₀) 0 k f) in
      ap (λ (z : ℕ). set x k z) (ap (λ (z : ℕ). bit_xor z (get_or y k 0)) (ap (λ (t : List ℕ). get_or t k 0) h ∙ here) ∙ sym (get_or-⊻ x₀ y k))
      ∙ ap (λ (t : List ℕ). set t k (get_or (x₀ ⊻ y) k 0)) h
      ∙ rw add-one (simp zero-add at (paste-suc x₀ 0 (x₀ ⊻ y) k 0 (omega arith) (omega arith)))

  pub xor_all : length x₀ ≤ k → x ≡ x₀ ⊻ y
  xor_all g =
      let l : length (x₀ ⊻ y) ≡ length x₀ = length-⊻ x₀ y (length x₀) refl e in
      h ∙ rw (take_all k (x₀ ⊻ y) (omega arith), drop_of_length-le x₀ {i = k} g, append-nil (x₀ ⊻ y)) refl

-- ---- a row written as a part of its list

module _ (d y : List ℕ) (to w : ℕ) (h : to + w ≤ length d) where
  written : (x : Row) → y ≡ x → length x ≡ w → put_mid to (to + w - to) d y ≡ paste d to x w
  written x e l = put_mid-paste to (to + w - to) d y x w e (omega arith) (sym l)

  pub zeroed-by : y ≡ replicate (length (take (to + w - to) (drop to d))) 0 → put_mid to (to + w - to) d y ≡ zeroed d to w
  zeroed-by e =
      let l : length (take (to + w - to) (drop to d)) ≡ w = ap length (cut d to w) ∙ length_part d to w h in
      written (replicate w 0) (e ∙ ap (λ (n : ℕ). replicate n 0) l) (length-replicate w 0) ∙ sym (zeroed-fits d to w h)

  module _ (s : List ℕ) (from : ℕ) (g : from + w ≤ length s) where
    pub copied-by : y ≡ take (from + w - from) (drop from s) → put_mid to (to + w - to) d y ≡ copied d to s from w
    copied-by e = written (part w from s) (e ∙ cut s from w) (length_part s from w g) ∙ sym (copied-fits d to s from w h g)

    pub added-by : y ≡ take (to + w - to) (drop to d) ⊻ take (from + w - from) (drop from s) → put_mid to (to + w - to) d y ≡ added d to s from w
    added-by e =
        written (part w to d ⊻ part w from s) (e ∙ ap₂ {C = List ℕ} ◌⊻◌ (cut d to w) (cut s from w))
        (length-⊻ _ _ w (length_part d to w h) (length_part s from w g)) ∙ sym (added-fits d to s from w h g)

-- ---- rows of one list

module _ (v x : List ℕ) (to from w : ℕ) (p : to + w ≤ length v) (q : from + w ≤ length v) where
  pub copied_within-by : Apart to from w → x ≡ paste v to (drop from v) (from + w - from) → x ≡ copied_within v to from w
  copied_within-by a h =
      let e : from + w - from ≡ w = omega arith in
      let l : length (part w from v) ≡ w = length_part v from w q in
      h ∙ rw (e, copied_within-fits v to from w p q a, take_all w (part w from v) (omega arith)) refl

  -- l and r are the parts of the list before and from the row behind the other
  module _ (l r : List ℕ) (m : ℕ) (fits : m ≤ length v) (el : l ≡ take m v) (er : r ≡ drop m v) where
    whole : l ++ r ≡ v
    whole = rw (el, er) (take-append-drop m v)

    long : length l ≡ m
    long = ap length el ∙ length-take-le m v fits

    before : (a : ℕ) → a + w ≤ m → take (a + w - a) (drop a l) ≡ part w a v
    before a h = let n = long in cut l a w ∙ sym (part_front l r a w (omega arith)) ∙ ap (part w a) whole

    pub added-high : m ≡ to → from + w ≤ to → x ≡ take w r ⊻ take (from + w - from) (drop from l) → l ++ (x ++ drop w r) ≡ added_within v to from w
    added-high e a h =
        let X = part w to v ⊻ part w from v in
        let t : x ≡ X = h ∙ ap₂ {C = List ℕ} ◌⊻◌ (ap (take w) er ∙ ap (λ (n : ℕ). part w n v) e) (before from (omega arith)) in
        let n : length X ≡ w = length-⊻ _ _ w (length_part v to w p) (length_part v from w q) in
        rw (el, er, t, e, drop-drop w to v, added_within-fits v to from w p q (inr a), append_assoc (take to v) (take w X) (drop (to + w) v), take_all w X (omega arith)) refl

    pub added-low : m ≡ from → to + w ≤ from → x ≡ take (to + w - to) (drop to l) ⊻ take w r → put_mid to (to + w - to) l x ++ r ≡ added_within v to from w
    added-low e a h =
        let X = part w to v ⊻ part w from v in
        let t : x ≡ X = h ∙ ap₂ {C = List ℕ} ◌⊻◌ (before to (omega arith)) (ap (take w) er ∙ ap (λ (n : ℕ). part w n v) e) in
        let n : length X ≡ w = length-⊻ _ _ w (length_part v to w p) (length_part v from w q) in
        let k = long in
        ap (λ (s : List ℕ). s ++ r) (put_mid-paste to (to + w - to) l x X w t (omega arith) (sym n))
        ∙ append_assoc (take to l ++ take w X) (drop (to + w) l) r
        ∙ ap₂ {C = List ℕ} (λ (s u : List ℕ). s ++ take w X ++ u) (sym (take-append-le to l r (omega arith)) ∙ ap (take to) whole) (sym (drop-append-le (to + w) l r (omega arith)) ∙ ap (drop (to + w)) whole)
        ∙ sym (added_within-fits v to from w p q (inl a))
