-- Rows of w words, cut off a list one by one.
--     cut-row, cut-rest     what is cut off behind j rows is row j, and what is left
--     cut-in, cut-end       there is a row j; where no row is left, all were cut off
--     written-more          a value written behind j others that are as they should be
--     each-row              what an iterator over them gives
--     all-same              std's test of a list, and that of specs/
use Rattle.std.proofs.Common.{◌≡◌, ◌≢◌, refl, sym, ap, ap₂, subst, ◌∙◌, ℕ, suc, ◌+◌, ◌-◌, ◌*◌, ◌/◌, ◌<◌, ◌≤◌, Bool, ◌&&◌, List, [], ◌∷◌, ◌++◌, length, get_or, take, drop, set, arith, length-append, length-drop, get_or-set_same, get_or-set_other, below_more, add-one}
use Rattle.std.proofs.Math.Nat.{div-lt_iff_lt-mul, le-div_iff_mul-le, div-eq_of_lt, add-div_right}
use Rattle.std.proofs.lemmas.List.{take_at, drop_at, drop-drop}
use Rattle.std.proofs.lemmas.Iterator.{YieldsList}
use Rattle.std.proofs.lemmas.Iterator.Splits.{YieldsList-from_shown_while}
use Rattle.std.specs.List.{list_all}
use Rattle.std.specs.Slice.Iter.{chunks_exact_rest, chunks_exact_size, chunks_exact_steps}
use Rattle.std.specs.declared.slice.ChunksExact.{ChunksExact}
use Rattle.bits.specs.Vectors.{all}
use Rattle.bits.specs.Rows.{row, rows, rows_of}
use Rattle.bits.proofs.Tests.{length-tab}
use Rattle.bits.proofs.RowLaws.{rows-suc}

module _ (w j : ℕ) (l rest x rest' : List ℕ) (e : rest ≡ drop (j * w) l) (c : rest ≡ x ++ rest') (h : length x ≡ w) where
  pub cut-row : x ≡ row w l j
  cut-row = sym (take_at x rest' w h) ∙ ap (take w) (sym c ∙ e)

  pub cut-rest : rest' ≡ drop ((j + 1) * w) l
  cut-rest =
      let n : j * w + w ≡ (j + 1) * w = omega arith in
      sym (drop_at x rest' w h) ∙ ap (drop w) (sym c ∙ e) ∙ drop-drop w (j * w) l ∙ ap (λ (k : ℕ). drop k l) n

  pub cut-in : 0 < w → j < length l / w
  cut-in some =
      let n : length rest ≡ length l - j * w = ap length e ∙ length-drop (j * w) l in
      let m : length rest ≡ w + length rest' = ap length c ∙ length-append x rest' ∙ ap (λ (k : ℕ). k + length rest') h in
      let k : j + 1 ≤ length l / w = (le-div_iff_mul-le {k = w} {x = j + 1} {y = length l} some).1 (omega arith) in
      omega arith

pub cut-end : (w j : ℕ) (l rest : List ℕ) → rest ≡ drop (j * w) l → length rest < w → length l / w ≤ j
cut-end w j l rest e h =
    let n : length rest ≡ length l - j * w = ap length e ∙ length-drop (j * w) l in
    let m : length l / w < j + 1 = (div-lt_iff_lt-mul {k = w} {x = length l} {y = j + 1} (omega arith)).1 (omega arith) in
    omega arith

pub written-more : (P : ℕ → ℕ → Type 0) (l : List ℕ) (j y : ℕ) → j < length l → ((k : ℕ) → k < j → P k (get_or l k 0)) → P j y → (k : ℕ) → k < j + 1 → P k (get_or (set l j y) k 0)
written-more P l j y h before here =
    below_more (λ (k : ℕ). P k (get_or (set l j y) k 0)) j
    (λ k q. let ne : k ≢ j = omega arith in rw get_or-set_other (before k q))
    (rw get_or-set_same here)

-- ---- what an iterator over them gives

rows-more : (w : ℕ) (x l : List ℕ) → 0 < w → length x ≡ w → rows_of w (x ++ l) ≡ x ∷ rows_of w l
rows-more w x l h e =
    let n : length (x ++ l) ≡ length l + w = length-append x l ∙ omega (arith, e) in
    let k : length (x ++ l) / w ≡ suc (length l / w) = ap (λ (n : ℕ). n / w) n ∙ add-div_right (length l) h ∙ add-one (length l / w) in
    ap (λ (n : ℕ). rows w n (x ++ l)) k ∙ rows-suc w (length l / w) (x ++ l)
    ∙ ap₂ (λ (a : List ℕ) (b : List ℕ). a ∷ rows w (length l / w) b) (take_at x l w e) (drop_at x l w e)

pub each-row : {s : ChunksExact ℕ} (w : ℕ) (l : List ℕ) → 0 < w → chunks_exact_size s ≡ w → chunks_exact_rest s ≡ l → YieldsList (chunks_exact_steps {A = ℕ}) (λ x. x.now) s (rows_of w l)
each-row {s} w l h size rest =
    subst (λ (r : List ℕ). YieldsList (chunks_exact_steps {A = ℕ}) (λ x. x.now) s (rows_of w r)) rest
    (YieldsList-from_shown_while (chunks_exact_steps {A = ℕ}) (λ x. x.now) (λ s. rows_of w (chunks_exact_rest s)) (λ s. chunks_exact_size s ≡ w)
    (λ s t p q. let n : length (chunks_exact_rest s) / w ≡ 0 = div-eq_of_lt (omega (arith, p, q.1.0)) in length-tab (length (chunks_exact_rest s) / w) (row w (chunks_exact_rest s)) ∙ n)
    (λ s x t p q. (q.0 ∙ p, ap (λ (r : List ℕ). rows_of w r) q.1.0 ∙ rows-more w x.now (chunks_exact_rest t) h (q.1.1 ∙ p)))
    s size)

pub all-same : {A : Type 0} (p : A → Bool) (l : List A) → list_all p l ≡ all p l
all-same p [] = refl
all-same p (x ∷ l) = ap (λ (b : Bool). p x && b) (all-same p l)
