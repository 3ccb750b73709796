-- The code's loops against the model: the three sweeps of `pivot` are one step, `run` is all of them, and what `eliminate` answers.
--     rows-over              the rows of a list swept by `over`
--     step-none, step-some   a step where the equation has no coefficient, and where it has one
--     steps_turn, all-steps  a turn of `run`, and its end
--     misfit, fit_done       the two answers
use mathlib.Core.Path.{◌≡◌, refl, sym, ap, ap₂, ◌∙◌}
use Prim.Native.Nat.{ℕ, zero, suc, ◌+◌, ◌-◌, ◌*◌, ◌/◌, ◌%◌, ◌≤◌, ◌<◌}
use native.Mathlib.Omega.{arith}
use native.Mathlib.Numerals.{add-one}
use native.Mathlib.Nat.{add-zero, div-eq_of_eq-mul_left}
use mathlib.Core.Bool.{Bool, true, false}
use mathlib.Core.List.{List, [], ◌∷◌, ◌++◌, map, flatten, append_assoc, map-append}
use lib.ListN.{length, take, drop, set, get_or, length-append, length-drop, length-map, take-append-drop}
use lib.Seq.{take_at, drop_at, set_at, take-append-le, drop-append-le, length-take-le, get_or-take}
use Rattle.bits.specs.Vectors.{pick}
use Rattle.bits.specs.Rows.{Row, ◌⊻◌, has_at, part, row, rows, rows_of, at}
use Rattle.gf2.specs.Solve.{clear_at, clear, lead, Sys, sys, pass, step, steps, solve, fits, Done, done, solved}
use Rattle.gf2.specs.Inner.{over}
use Rattle.std.specs.Prelude.{Some, None}
use Rattle.bits.proofs.RowXor.{length-⊻, word_of, place_of}
use Rattle.bits.proofs.Tests.{length-tab, tab-at}
use Rattle.bits.proofs.RowLaws.{length-row, rows-suc, rows_append, flatten-whole, whole-rows}
use Rattle.gf2.proofs.Calls.{shapes}
use Rattle.gf2.proofs.Reduced.{zero-words}

-- ---- rows swept

head_len : (w n : ℕ) (l : List ℕ) → length l ≡ suc n * w → length (take w l) ≡ w
head_len w n l h = length-take-le w l (omega arith)

tail_len : (w n : ℕ) (l : List ℕ) → length l ≡ suc n * w → length (drop w l) ≡ n * w
tail_len w n l h = length-drop w l ∙ omega arith

-- f keeps the width
abbrev Keeps : ℕ → (Row → Row) → Type 0
Keeps w f = (x : Row) → length x ≡ w → length (f x) ≡ w

clear-keeps : (w k j : ℕ) (e : Row) → length e ≡ w → Keeps w (clear_at k j e)
unfolding clear_at
clear-keeps w k j e h x m = go (has_at k j x)
  where
    go : (b : Bool) → length (pick b (x ⊻ e) x) ≡ w
    go true = length-⊻ x e w m h
    go false = m

over_append : (w n : ℕ) (f : Row → Row) (p t : List ℕ) → length p ≡ n * w → over w n f (p ++ t) ≡ over w n f p ++ t
unfolding over
over_append w zero f p t h = refl
over_append w (suc n) f p t h =
    let q : w ≤ length p = omega arith in
    rw (take-append-le w p t q, drop-append-le w p t q, over_append w n f (drop w p) t (tail_len w n p h)) (sym (append_assoc (f (take w p)) (over w n f (drop w p)) t))

length_over : (w n : ℕ) (f : Row → Row) (l : List ℕ) → Keeps w f → length l ≡ n * w → length (over w n f l) ≡ n * w
unfolding over
length_over w zero f l k h = h
length_over w (suc n) f l k h =
    let a = k (take w l) (head_len w n l h) in
    let b = length_over w n f (drop w l) k (tail_len w n l h) in
    length-append (f (take w l)) (over w n f (drop w l)) ∙ omega arith

rows-over : (w n : ℕ) (f : Row → Row) (l : List ℕ) → Keeps w f → length l ≡ n * w → rows w n (over w n f l) ≡ map f (rows w n l)
unfolding over
rows-over w zero f l k h = refl
rows-over w (suc n) f l k h =
    let x = f (take w l) in
    let y = over w n f (drop w l) in
    let a = k (take w l) (head_len w n l h) in
    rows-suc w n (x ++ y) ∙ ap₂ {C = List Row} (λ r t. r ∷ rows w n t) (take_at x y w a) (drop_at x y w a)
    ∙ ap {B = List Row} (λ r. x ∷ r) (rows-over w n f (drop w l) k (tail_len w n l h)) ∙ sym (ap (map f) (rows-suc w n l))

-- ---- a list of m rows, cut at row i

-- the rows before row i swept, then those after it
module _ (l : List ℕ) (m i w : ℕ) (hl : length l ≡ m * w) (hi : i < m) (f : Row → Row) (kf : Keeps w f) where
  abbrev front : List ℕ
  front = take (i * w) l

  abbrev x : Row
  x = part w (i * w) l

  abbrev end : List ℕ
  end = drop w (drop (i * w) l)

  abbrev swept : List ℕ
  swept = over w i f front ++ (x ++ over w (m - i - 1) f end)

  cut : i * w + w + (m - i - 1) * w ≡ m * w
  cut = let n = m - i - 1 in let e : m ≡ i + suc n = omega arith in rw e (let z : i + suc n - i - 1 ≡ n = omega arith in rw z (omega arith))

  len_before : length front ≡ i * w
  len_before = let c = cut in length-take-le (i * w) l (omega arith)

  len_after : length end ≡ (m - i - 1) * w
  len_after = let c = cut in length-drop w (drop (i * w) l) ∙ simp length-drop (omega arith)

  len_row : length x ≡ w
  len_row = length-row w m l hl i hi

  whole : l ≡ front ++ (x ++ end)
  whole = sym (ap (λ (r : List ℕ). front ++ r) (take-append-drop w (drop (i * w) l)) ∙ take-append-drop (i * w) l)

  rows_cut : (p q : List ℕ) → length p ≡ i * w → rows w m (p ++ (x ++ q)) ≡ rows w i p ++ x ∷ rows w (m - i - 1) q
  rows_cut p q h =
      let n = m - i - 1 in
      let e : m ≡ i + suc n = omega arith in
      let f : rows w (suc n) (x ++ q) ≡ x ∷ rows w n q = rows-suc w n (x ++ q) ∙ ap₂ (λ r t. r ∷ rows w n t) (take_at x q w len_row) (drop_at x q w len_row) in
      ap (λ (n : ℕ). rows w n (p ++ (x ++ q))) e ∙ rows_append w i (suc n) p (x ++ q) h ∙ ap (λ (r : List Row). rows w i p ++ r) f

  len_front : length (over w i f front) ≡ i * w
  len_front = length_over w i f front kf len_before

  len_swept : length swept ≡ m * w
  len_swept =
      let a = len_front in
      let b = len_row in
      let c = length_over w (m - i - 1) f end kf len_after in
      let d = cut in
      length-append (over w i f front) (x ++ over w (m - i - 1) f end) ∙ ap (λ (n : ℕ). length (over w i f front) + n) (length-append x (over w (m - i - 1) f end)) ∙ omega arith

  swept_rows : rows w m swept ≡ set (map f (rows w m l)) i x
  swept_rows =
      let given : rows w m l ≡ rows w i front ++ x ∷ rows w (m - i - 1) end = ap (rows w m) whole ∙ rows_cut front end len_before in
      rows_cut (over w i f front) (over w (m - i - 1) f end) len_front
      ∙ ap₂ (λ (a b : List Row). a ++ x ∷ b) (rows-over w i f front kf len_before) (rows-over w (m - i - 1) f end kf len_after)
      ∙ sym (set_at (map f (rows w i front)) (f x) (map f (rows w (m - i - 1) end)) x i (length-map (rows w i front) f ∙ length-tab i (row w front)))
      ∙ ap (λ (r : List Row). set r i x) (sym (ap (map f) given ∙ map-append f (rows w i front) (x ∷ rows w (m - i - 1) end)))

-- the rows of as many words
rows_are : (w m : ℕ) (l : List ℕ) → 0 < w → length l ≡ m * w → rows_of w l ≡ rows w m l
rows_are w m l p h = ap (λ (n : ℕ). rows w n l) (div-eq_of_eq-mul_left p h)

-- ---- a step of the model: equation i is `row`, `before` and `after` are the others

-- the first c words of a row
pub seen : (y : Row) (c w : ℕ) → c ≤ w → length y ≡ w → (t : ℕ) → t < c → (t < length (take c y)) × (get_or y t 0 ≡ get_or (take c y) t 0)
seen y c w h e t k =
    let n : length (take c y) ≡ c = length-take-le c y (omega arith) in
    (omega arith, sym (get_or-take c y t 0 k))

module _ (l r before others y after : List ℕ) (i c w : ℕ) (hl : length l % w ≡ 0) (hr : length r % w ≡ 0) (hi : i < length l / w) (cw : c ≤ w) (hw : 0 < w)
    (eb : before ≡ take (i * w) l) (eo : others ≡ drop (i * w) l) (er : y ≡ take w others) (ea : after ≡ drop w others) where
  abbrev m : ℕ
  m = length l / w

  given : length l ≡ m * w
  given = whole-rows (length l) w hl

  y_is : y ≡ part w (i * w) l
  y_is = er ∙ ap (take w) eo

  len_y : length y ≡ w
  len_y = ap length y_is ∙ length-row w m l given i hi

  at_i : at (rows_of w l) i ≡ y
  at_i = tab-at m (row w l) i [] hi ∙ sym y_is

  pub step-none : (n : ℕ) → ((t : ℕ) → t < length (take c y) → get_or (take c y) t 0 ≡ 0)
      → sys (rows_of w (before ++ (y ++ after))) (rows_of w r) (n + 0) ≡ step c i (sys (rows_of w l) (rows_of w r) n)
  unfolding pass
  step-none n z =
      let e : before ++ (y ++ after) ≡ l =
      ap₂ {C = List ℕ} ◌++◌ eb (ap₂ {C = List ℕ} ◌++◌ er ea ∙ take-append-drop w others ∙ eo) ∙ take-append-drop (i * w) l in
      let o : lead c y ≡ 0 = zero-words c y (λ t h. let s = seen y c w cw len_y t h in s.1 ∙ z t s.0) in
      rw (e, add-zero n, at_i, o) refl

  pub step-some : (b a q : List ℕ) (k j n : ℕ) → lead c y ≡ suc (64 * k + j) → j < 64
      → b ≡ over (length y) i (clear_at k j y) before
      → a ≡ over (length y) (m - i - 1) (clear_at k j y) after
      → q ≡ over (length y) (length r / w) (clear_at k j y) r
      → sys (rows_of w (b ++ (y ++ a))) (rows_of w q) (n + 1) ≡ step c i (sys (rows_of w l) (rows_of w r) n)
  unfolding pass
  step-some b a q k j n le jl e₁ e₂ e₃ =
      let f : Row → Row = clear_at k j y in
      let kf : Keeps w f = clear-keeps w k j y len_y in
      let ge : length r ≡ length r / w * w = whole-rows (length r) w hr in
      let fb : b ≡ over w i f (take (i * w) l) = e₁ ∙ rw (len_y, eb) refl in
      let fa : a ≡ over w (m - i - 1) f (drop w (drop (i * w) l)) = e₂ ∙ rw (len_y, ea, eo) refl in
      let fq : q ≡ over w (length r / w) f r = e₃ ∙ rw len_y refl in
      let left : rows_of w (b ++ (y ++ a)) ≡ set (map f (rows_of w l)) i y =
      ap (rows_of w) (ap₂ {C = List ℕ} ◌++◌ fb (ap₂ {C = List ℕ} ◌++◌ y_is fa))
      ∙ rows_are w m (swept l m i w given hi f kf) hw (len_swept l m i w given hi f kf) ∙ swept_rows l m i w given hi f kf
      ∙ ap (λ (z : Row). set (map f (rows_of w l)) i z) (sym y_is) in
      let right : rows_of w q ≡ map f (rows_of w r) =
      ap (rows_of w) fq ∙ rows_are w (length r / w) (over w (length r / w) f r) hw (length_over w (length r / w) f r kf ge) ∙ rows-over w (length r / w) f r kf ge in
      let ff : f ≡ clear (64 * k + j) y = ap₂ (λ (u v : ℕ). clear_at u v y) (sym (word_of k j jl)) (sym (place_of k j jl)) in
      rw (at_i, le, at_i)
      (ap₂ (λ (u v : List Row). sys u v (n + 1)) (left ∙ ap (λ (g : Row → Row). set (map g (rows_of w l)) i y) ff) (right ∙ ap (λ (g : Row → Row). map g (rows_of w r)) ff))

-- ---- all steps

pub steps_turn : (c m i : ℕ) (s t : Sys) → i < m → t ≡ step c i s → steps c (m - (i + 1)) (i + 1) t ≡ steps c (m - i) i s
unfolding steps
steps_turn c m i s t h e =
    let p : m - i ≡ suc (m - (i + 1)) = omega arith in
    rw (p, e, add-one i) refl

pub all-steps : (s : Sys) (l r : List ℕ) (c w i : ℕ) → length l / w ≤ i
    → steps c (length l / w - i) i s ≡ steps c (length l / w) 0 (sys (rows_of w l) (rows_of w r) 0) → s ≡ solve c (rows_of w l) (rows_of w r)
unfolding steps solve
all-steps s l r c w i e h =
    let z : length l / w - i ≡ 0 = omega arith in
    rw (length-tab (length l / w) (row w l)) (rw z at h)

-- ---- what `eliminate` answers

pub misfit : (c w : ℕ) (e r : List ℕ) → ((w ≡ 0 → ⊥) → c ≤ w → length e % w ≡ 0 → length r % w ≡ 0 → ⊥) → done e r None ≡ solved c w e r
unfolding solved
misfit c w e r h = go (fits c w e r) refl
  where
    t : Done
    t = let s = solve c (rows_of w e) (rows_of w r) in done (flatten s.eqs) (flatten s.rest) (Some s.rank)

    go : (b : Bool) → fits c w e r ≡ b → done e r None ≡ pick b t (done e r None)
    go true q = let s = shapes c w e r q in absurd (h s.0 s.1 s.2 s.3)
    go false q = refl

pub fit_done : (c w : ℕ) (e r e₁ r₁ : List ℕ) (n : ℕ) → fits c w e r ≡ true → length e₁ ≡ length e → length r₁ ≡ length r
    → sys (rows_of w e₁) (rows_of w r₁) n ≡ solve c (rows_of w e) (rows_of w r)
    → done e₁ r₁ (Some n) ≡ solved c w e r
unfolding solved
fit_done c w e r e₁ r₁ n f he hr h =
    let s = shapes c w e r f in
    rw (f, ← h, flatten-whole w (length e₁ / w) e₁ (whole-rows (length e₁) w (rw he s.2)), flatten-whole w (length r₁ / w) r₁ (whole-rows (length r₁) w (rw hr s.3))) refl
