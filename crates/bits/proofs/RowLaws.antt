-- The rows of a list of words.
--     length_part, get_or_part, part_front            the w words from a place on
--     row_fit, rows_apart, row_room, length-row     where row j lies
--     row-left, row-right, row-take, row_drop       rows of the parts of a list
--     rows-suc, rows_append                         the first row and the others; the rows of two lists
--     rows-flatten, flatten-rows, rows_of-flatten    rows joined and cut, cut and joined
--     wide_rows, wide_at_lem, at_wide                   each row has w words
--     whole-rows, pred_mul                          how many rows
use mathlib.Core.Path.{◌≡◌, refl, sym, ap, ap₂, ◌∙◌}
use mathlib.Core.Logic.{◌⊎◌, inl, inr, ⊎_elim}
use Prim.Native.Nat.{ℕ, zero, suc, ◌+◌, ◌-◌, ◌*◌, ◌/◌, ◌%◌, ◌≤◌, ◌<◌}
use native.Mathlib.Omega.{arith}
use native.Mathlib.Nat.{zero-mul, add-mul, mul-le-mul_right, div-add-mod', div-eq_of_eq-mul_left}
use mathlib.Core.List.{List, [], ◌∷◌, ◌++◌, append_assoc, append-nil, flatten}
use lib.ListN.{length, take, drop, get_or, length-drop, length-append, take-append-drop}
use lib.Seq.{length-take-le, get_or-drop, get_or-take, drop-drop, take_all, take-append-le, drop-append-le, take-add, take_at, drop_at}
use Rattle.bits.specs.Vectors.{tab}
use Rattle.bits.specs.Rows.{Row, part, row, rows, rows_of, at, Wide}
use Rattle.bits.proofs.Tests.{tab_below, tab_ext, tab_append, lt_or_gt}

-- ---- the w words from a place on

pub length_part : (l : List ℕ) (a w : ℕ) → a + w ≤ length l → length (part w a l) ≡ w
length_part l a w h = length-take-le w (drop a l) (simp length-drop (omega arith))

pub get_or_part : (l : List ℕ) (a w k : ℕ) → k < w → get_or (part w a l) k 0 ≡ get_or l (a + k) 0
get_or_part l a w k h = rw (get_or-take, get_or-drop)

pub part_front : (p q : List ℕ) (a w : ℕ) → a + w ≤ length p → part w a (p ++ q) ≡ part w a p
part_front p q a w h = rw (drop-append-le a p q (omega arith)) (take-append-le w (drop a p) q (simp length-drop (omega arith)))

-- ---- row j

abbrev pub Apart : ℕ → ℕ → ℕ → Type 0
Apart a b w = (a + w ≤ b) ⊎ (b + w ≤ a)

pub row_fit : (i n w : ℕ) → i < n → i * w + w ≤ n * w
row_fit i n w h = let e : suc i * w ≤ n * w = mul-le-mul_right w h in omega arith

pub rows_apart : (i j w : ℕ) → (i ≡ j → ⊥) → Apart (i * w) (j * w) w
rows_apart i j w ne = ⊎_elim (λ p. inl (row_fit i j w p)) (λ p. inr (row_fit j i w p)) (lt_or_gt i j ne)

pub row_zero : (w : ℕ) (v : List ℕ) → length v ≡ w → row w v 0 ≡ v
row_zero w v l = rw (zero-mul w) (take_all w v (omega arith))

module _ (w n : ℕ) (v : List ℕ) (lv : length v ≡ n * w) where
  pub row_room : (i : ℕ) → i < n → i * w + w ≤ length v
  row_room i h = let f = row_fit i n w h in omega arith

  pub length-row : (i : ℕ) → i < n → length (row w v i) ≡ w
  length-row i h = length_part v (i * w) w (row_room i h)

-- ---- rows of the parts of a list

module _ (w h : ℕ) (p q : List ℕ) (l : length p ≡ h * w) where
  pub row-left : (j : ℕ) → j < h → row w (p ++ q) j ≡ row w p j
  row-left j hj = let f = row_fit j h w hj in part_front p q (j * w) w (omega arith)

  pub row-right : (j : ℕ) → row w (p ++ q) (h + j) ≡ row w q j
  row-right j = rw (add-mul h j w, ← drop-drop (j * w) (h * w) (p ++ q), drop_at p q (h * w) l) refl

module _ (w h : ℕ) (l : List ℕ) (f : h * w ≤ length l) where
  pub row-take : (j : ℕ) → j < h → row w (take (h * w) l) j ≡ row w l j
  row-take j hj = sym (row-left w h (take (h * w) l) (drop (h * w) l) (length-take-le (h * w) l f) j hj) ∙ ap (λ (x : List ℕ). row w x j) (take-append-drop (h * w) l)

  pub row_drop : (j : ℕ) → row w (drop (h * w) l) j ≡ row w l (h + j)
  row_drop j = sym (row-right w h (take (h * w) l) (drop (h * w) l) (length-take-le (h * w) l f) j) ∙ ap (λ (x : List ℕ). row w x (h + j)) (take-append-drop (h * w) l)

-- ---- a list of words and its rows

pub length-flatten : (w : ℕ) (rs : List Row) → Wide w rs → length (flatten rs) ≡ length rs * w
unfolding flatten
length-flatten w [] h = sym (zero-mul w)
length-flatten w (r ∷ rs) (e, h) = length-append r (flatten rs) ∙ omega (arith, length-flatten w rs h)

-- the rows of words that start with these rows
pub rows_front : (w : ℕ) (rs : List Row) (l : List ℕ) → Wide w rs → rows w (length rs) (flatten rs ++ l) ≡ rs
unfolding flatten
rows_front w [] l h = refl
rows_front w (r ∷ rs) l (e, h) = go (rows_front w rs l h)
  where
    t : List ℕ
    t = flatten rs ++ l

    first : row w (r ++ t) 0 ≡ r
    first = rw (zero-mul w) (take_at r t w e)

    later : (i : ℕ) → row w (r ++ t) (suc i) ≡ row w t i
    later i = let q : suc i ≡ 1 + i = omega arith in rw q (row-right w 1 r t (e ∙ omega arith) i)

    go : rows w (length rs) t ≡ rs → rows w (suc (length rs)) ((r ++ flatten rs) ++ l) ≡ r ∷ rs
    go ih = rw (append_assoc r (flatten rs) l)
        (ap₂ {C = List Row} ◌∷◌ first (tab_below (length rs) (λ (i : ℕ). row w (r ++ t) (suc i)) (row w t) (λ i p. later i) ∙ ih))

pub rows-flatten : (w : ℕ) (rs : List Row) → Wide w rs → rows w (length rs) (flatten rs) ≡ rs
rows-flatten w rs h = ap (rows w (length rs)) (sym (append-nil (flatten rs))) ∙ rows_front w rs [] h

-- the rows behind the first
rows_next : (w n : ℕ) (l : List ℕ) → tab n (λ (i : ℕ). row w l (suc i)) ≡ rows w n (drop w l)
rows_next w n l = tab_below n (λ (i : ℕ). row w l (suc i)) (row w (drop w l)) (λ i p. let q : suc i * w ≡ w + i * w = omega arith in rw (q, ← drop-drop (i * w) w l) refl)

pub rows-suc : (w n : ℕ) (l : List ℕ) → rows w (suc n) l ≡ take w l ∷ rows w n (drop w l)
rows-suc w n l = rw (zero-mul w, rows_next w n l) refl

-- the first n rows, one after the other
pub flatten-rows : (w n : ℕ) (l : List ℕ) → flatten (rows w n l) ≡ take (n * w) l
unfolding flatten
flatten-rows w zero l = rw (zero-mul w)
flatten-rows w (suc n) l =
    let q : suc n * w ≡ w + n * w = omega arith in
    rw (q, zero-mul w, take-add w (n * w) l, rows_next w n l, flatten-rows w n (drop w l)) refl

pub flatten-whole : (w n : ℕ) (l : List ℕ) → length l ≡ n * w → flatten (rows w n l) ≡ l
flatten-whole w n l h = flatten-rows w n l ∙ take_all (n * w) l (omega arith)

pub rows_of-flatten : (w : ℕ) (rs : List Row) → 0 < w → Wide w rs → rows_of w (flatten rs) ≡ rs
rows_of-flatten w rs p h = ap (λ (n : ℕ). rows w n (flatten rs)) (div-eq_of_eq-mul_left p (length-flatten w rs h)) ∙ rows-flatten w rs h

pub rows_append : (w n m : ℕ) (p q : List ℕ) → length p ≡ n * w → rows w (n + m) (p ++ q) ≡ rows w n p ++ rows w m q
rows_append w n m p q h =
    tab_append n m (row w (p ++ q))
    ∙ ap₂ {C = List Row} ◌++◌
    (tab_below n (row w (p ++ q)) (row w p) (row-left w n p q h))
    (tab_ext m (λ (i : ℕ). row w (p ++ q) (n + i)) (row w q) (row-right w n p q h))

-- ---- each row has w words

pub wide_rows : (w n : ℕ) (l : List ℕ) → n * w ≤ length l → Wide w (rows w n l)
wide_rows w zero l h = tt
wide_rows w (suc n) l h =
    let q : suc n * w ≡ w + n * w = omega arith in
    (length_part l (0 * w) w (omega arith), rw (rows_next w n l) (wide_rows w n (drop w l) (simp length-drop (omega arith))))

pub wide_at_lem : (w : ℕ) (rs : List Row) → Wide w rs → (i : ℕ) → i < length rs → length (at rs i) ≡ w
wide_at_lem w [] h i l = absurd (omega arith)
wide_at_lem w (r ∷ rs) (e, h) zero l = e
wide_at_lem w (r ∷ rs) (e, h) (suc i) l = wide_at_lem w rs h i (omega arith)

pub at_wide : (w : ℕ) (rs : List Row) → ((i : ℕ) → i < length rs → length (at rs i) ≡ w) → Wide w rs
at_wide w [] h = tt
at_wide w (r ∷ rs) h = (h 0 (omega arith), at_wide w rs (λ i l. h (suc i) (omega arith)))

-- ---- how many rows

-- a length with no remainder is whole rows
pub whole-rows : (n w : ℕ) → n % w ≡ 0 → n ≡ n / w * w
whole-rows n w h = let d = div-add-mod' n w in omega arith

-- the first of n rows apart
pub pred_mul : (n w : ℕ) → 0 < n → (n - 1) * w + w ≡ n * w
pred_mul zero w h = absurd (omega arith)
pred_mul (suc n) w h = let s : suc n - 1 ≡ n = omega arith in rw s (omega arith)
