-- A row that was written.
--     put-behind                                              a part put behind another
--     paste-part, paste-apart, paste_again, paste-set         a row that was written, and the others
--     zeroed-fits, copied-fits, added-fits, ..                what the functions on rows do where rows fit, and `..-out` where they do not
--     row_same, row_other, rows-put                           row j after row i was written
use mathlib.Core.Path.{◌≡◌, refl, sym, ap, ap₂, ◌∙◌}
use mathlib.Core.Logic.{inl, inr}
use Prim.Native.Nat.{ℕ, zero, suc, ◌+◌, ◌-◌, ◌*◌, ◌≤◌, ◌<◌}
use native.Mathlib.Omega.{arith}
use native.Mathlib.Nat.{suc_inj, suc-add}
use mathlib.Core.Bool.{Bool, true, false, ◌&&◌, ◌||◌}
use mathlib.Core.List.{List, [], ◌∷◌, ◌++◌, append_assoc, append-nil}
use lib.ListN.{length, take, drop, set, length-append, take-append-drop, drop_of_length-le}
use lib.Seq.{paste, length-paste, drop-paste, length-take-le, drop-drop, take_all, take_at, drop_at, set-append_left, take-set-lt}
use lib.Dec.{leb}
use borrow.Author.Tests.{le-leb, leb-true}
use borrow.Rule.Slice.PartMut.{put_mid}
use Rattle.bits.specs.Rows.{Row, ◌⊻◌, nought_row, part, row, rows, lies, apart, zeroed, copied, added, copied_within, added_within}
use Rattle.bits.specs.Vectors.{pick}
use Rattle.bits.proofs.Tests.{and_l, and_r, or_true, tab_snoc, tab_below}
use Rattle.bits.proofs.RowLaws.{Apart, part_front, row_room, rows_apart}

pub put-behind : (p l x : List ℕ) (a k : ℕ) → length p ≡ a → put_mid a k (p ++ l) x ≡ p ++ (x ++ drop k l)
put-behind p l x a k h = ap₂ {C = List ℕ} (λ s t. s ++ (x ++ drop k t)) (take_at p l a h) (drop_at p l a h)

-- ---- a row that was written

module _ (l x : List ℕ) (a w : ℕ) (h : a + w ≤ length l) (m : length x ≡ w) where
  before : length (take a l) ≡ a
  before = length-take-le a l (omega arith)

  pub length-written : length (paste l a x w) ≡ length l
  length-written = length-paste l a x w h (omega arith)

  pub paste-part : part w a (paste l a x w) ≡ x
  paste-part =
      let t : take w x ≡ x = take_all w x (omega arith) in
      rw (append_assoc (take a l) (take w x) (drop (a + w) l), drop_at (take a l) (take w x ++ drop (a + w) l) a before, t) (take_at x (drop (a + w) l) w m)

  pub paste-apart : (from : ℕ) → Apart a from w → part w from (paste l a x w) ≡ part w from l
  paste-apart from (inl q) =
      let s : a + w + (from - (a + w)) ≡ from = omega arith in
      ap (λ (r : List ℕ). take w r)
      (ap (λ (n : ℕ). drop n (paste l a x w)) (sym s) ∙ sym (drop-drop (from - (a + w)) (a + w) (paste l a x w))
      ∙ ap (drop (from - (a + w))) (drop-paste l a x w (omega arith) (omega arith)) ∙ drop-drop (from - (a + w)) (a + w) l ∙ ap (λ (n : ℕ). drop n l) s)
  paste-apart from (inr q) =
      let f = before in
      rw (append_assoc (take a l) (take w x) (drop (a + w) l)) (part_front (take a l) (take w x ++ drop (a + w) l) from w (omega arith))
      ∙ sym (part_front (take a l) (drop a l) from w (omega arith)) ∙ ap (part w from) (take-append-drop a l)

  pub paste_again : (y : List ℕ) → paste (paste l a x w) a y w ≡ paste l a y w
  paste_again y =
      let p : take a (paste l a x w) ≡ take a l =
      rw (append_assoc (take a l) (take w x) (drop (a + w) l)) (take_at (take a l) (take w x ++ drop (a + w) l) a before) in
      rw (p, drop-paste l a x w (omega arith) (omega arith)) refl

  -- one word of it, changed
  pub paste-set : (k z : ℕ) → k < w → set (paste l a x w) (a + k) z ≡ paste l a (set x k z) w
  paste-set k z q =
      let f = before in
      let g : length (take w x) ≡ w = length-take-le w x (omega arith) in
      let n : a + k < length (take a l ++ take w x) = omega (arith, length-append (take a l) (take w x)) in
      set-append_left (take a l ++ take w x) (drop (a + w) l) (a + k) z n
      ∙ ap (λ (r : List ℕ). r ++ drop (a + w) l) (set_in (take a l) (take w x) a f ∙ ap (λ (r : List ℕ). take a l ++ r) (sym (take-set-lt w x k z q)))
    where
      set_in : (p q : List ℕ) (a : ℕ) → length p ≡ a → set (p ++ q) (a + k) z ≡ p ++ set q k z
      set_in [] q a e = let i : a + k ≡ k = omega arith in ap (λ (n : ℕ). set q n z) i
      set_in (b ∷ p) q zero e = absurd (omega arith)
      set_in (b ∷ p) q (suc a) e = rw (suc-add a k) (ap (λ (r : List ℕ). b ∷ r) (set_in p q a (suc_inj e)))

-- a row that is the whole list
pub paste_all : (d x : List ℕ) (w : ℕ) → length d ≡ w → length x ≡ w → paste d 0 x w ≡ x
paste_all d x w ld lx =
    let a : take w x ≡ x = take_all w x (omega arith) in
    let b : drop (0 + w) d ≡ [] = drop_of_length-le d {i = 0 + w} (omega arith) in
    rw (a, b) (append-nil x)

-- ---- what the functions on rows do

lies-true : (n a w : ℕ) → a + w ≤ n → lies n a w ≡ true
unfolding lies
lies-true n a w h = le-leb (a + w) n h

lies-fits : (n a w : ℕ) → lies n a w ≡ true → a + w ≤ n
unfolding lies
lies-fits n a w h = leb-true (a + w) n h

apart-true : (n a b w : ℕ) → a + w ≤ n → b + w ≤ n → Apart a b w → apart n a b w ≡ true
unfolding apart
apart-true n a b w p q (inl r) = rw (lies-true n a w p, lies-true n b w q, le-leb (a + w) b r)
apart-true n a b w p q (inr r) = rw (lies-true n a w p, lies-true n b w q, le-leb (b + w) a r) (or_true (leb (a + w) b))

apart-fits : (n a b w : ℕ) → apart n a b w ≡ true → (a + w ≤ n) × (b + w ≤ n) × Apart a b w
unfolding apart
apart-fits n a b w h =
    let p = and_l (lies n a w && lies n b w) _ h in
    (lies-fits n a w (and_l _ _ p), lies-fits n b w (and_r (lies n a w) _ p), go (leb (a + w) b) refl (and_r (lies n a w && lies n b w) _ h))
  where
    go : (s : Bool) → leb (a + w) b ≡ s → s || leb (b + w) a ≡ true → Apart a b w
    go true r k = inl (leb-true (a + w) b r)
    go false r k = inr (leb-true (b + w) a k)

-- a test that fails
kept : (t : Bool) (x d : List ℕ) → (t ≡ true → ⊥) → d ≡ pick t x d
kept true x d h = absurd (h refl)
kept false x d h = refl

pub zeroed-fits : (d : List ℕ) (to w : ℕ) → to + w ≤ length d → zeroed d to w ≡ paste d to (nought_row w) w
unfolding zeroed
zeroed-fits d to w h = rw (lies-true (length d) to w h)

pub zeroed-out : (d : List ℕ) (to w : ℕ) → (to + w ≤ length d → ⊥) → d ≡ zeroed d to w
unfolding zeroed
zeroed-out d to w h = kept _ _ _ (λ e. h (lies-fits _ _ _ e))

module _ (d : List ℕ) (to : ℕ) (s : List ℕ) (from w : ℕ) where
  pub copied-fits : to + w ≤ length d → from + w ≤ length s → copied d to s from w ≡ paste d to (part w from s) w
  unfolding copied
  copied-fits h k = rw (lies-true (length d) to w h, lies-true (length s) from w k)

  pub copied-out : (to + w ≤ length d → from + w ≤ length s → ⊥) → d ≡ copied d to s from w
  unfolding copied
  copied-out h = kept _ _ _ (λ e. h (lies-fits _ _ _ (and_l _ _ e)) (lies-fits _ _ _ (and_r (lies (length d) to w) _ e)))

  pub added-fits : to + w ≤ length d → from + w ≤ length s → added d to s from w ≡ paste d to (part w to d ⊻ part w from s) w
  unfolding added
  added-fits h k = rw (lies-true (length d) to w h, lies-true (length s) from w k)

  pub added-out : (to + w ≤ length d → from + w ≤ length s → ⊥) → d ≡ added d to s from w
  unfolding added
  added-out h = kept _ _ _ (λ e. h (lies-fits _ _ _ (and_l _ _ e)) (lies-fits _ _ _ (and_r (lies (length d) to w) _ e)))

module _ (v : List ℕ) (to from w : ℕ) where
  pub copied_within-fits : to + w ≤ length v → from + w ≤ length v → Apart to from w → copied_within v to from w ≡ paste v to (part w from v) w
  unfolding copied_within
  copied_within-fits h k q = rw (apart-true (length v) to from w h k q)

  pub copied_within-out : ((to + w ≤ length v) × (from + w ≤ length v) × Apart to from w → ⊥) → v ≡ copied_within v to from w
  unfolding copied_within
  copied_within-out h = kept _ _ _ (λ e. h (apart-fits _ _ _ _ e))

  pub added_within-fits : to + w ≤ length v → from + w ≤ length v → Apart to from w → added_within v to from w ≡ paste v to (part w to v ⊻ part w from v) w
  unfolding added_within
  added_within-fits h k q = rw (apart-true (length v) to from w h k q)

  pub added_within-out : ((to + w ≤ length v) × (from + w ≤ length v) × Apart to from w → ⊥) → v ≡ added_within v to from w
  unfolding added_within
  added_within-out h = kept _ _ _ (λ e. h (apart-fits _ _ _ _ e))

-- ---- row j

module _ (w n : ℕ) (v : List ℕ) (lv : length v ≡ n * w) (i : ℕ) (x : Row) (v' : List ℕ) (h : i < n) (lx : length x ≡ w) (e : v' ≡ paste v (i * w) x w) where
  pub row_same : row w v' i ≡ x
  row_same = ap (λ (l : List ℕ). row w l i) e ∙ paste-part v x (i * w) w (row_room w n v lv i h) lx

  pub row_other : (j : ℕ) → (j ≡ i → ⊥) → row w v' j ≡ row w v j
  row_other j ne = ap (λ (l : List ℕ). row w l j) e ∙ paste-apart v x (i * w) w (row_room w n v lv i h) lx (j * w) (rows_apart i j w (λ q. ne (sym q)))

-- a row written behind n rows
pub rows-put : (w n : ℕ) (l l' : List ℕ) (x : Row) → n * w + w ≤ length l → length x ≡ w → l' ≡ paste l (n * w) x w → rows w (n + 1) l' ≡ rows w n l ++ (x ∷ [])
rows-put w n l l' x h lx e =
    tab_snoc n (row w l')
    ∙ ap₂ (λ (a : List Row) (b : Row). a ++ (b ∷ []))
    (tab_below n (row w l') (row w l) (λ i p. ap (λ (q : List ℕ). row w q i) e ∙ paste-apart l x (n * w) w h lx (i * w) (rows_apart n i w (λ q. omega arith))))
    (ap (λ (q : List ℕ). row w q n) e ∙ paste-part l x (n * w) w h lx)
