-- The strips put one behind the other, and the verdict on rows of w words.
--     map-tab          a table, each of its values mapped
--     strip            a strip, from what it says of each row
--     written          the three strips, and the bytes behind them
--     contradicted, sound-read     the verdict where the equations contradict themselves, and where they are sound
use mathlib.Core.Path.{◌≡◌, refl, sym, ap, ap₂, ◌∙◌}
use Prim.Native.Nat.{ℕ, zero, suc, ◌+◌, ◌-◌, ◌*◌, ◌/◌, ◌<◌}
use native.Mathlib.Omega.{arith}
use mathlib.Core.Bool.{Bool, true, false}
use mathlib.Core.List.{List, ◌∷◌, ◌++◌, map, append_assoc}
use lib.ListN.{length, get_or, drop, length-append, length-map}
use lib.Seq.{drop-drop}
use lib.Dec.{eqb}
use Rattle.bits.specs.Vectors.{pick, tab}
use Rattle.bits.specs.Rows.{Row, row, rows_of}
use Rattle.bits.proofs.Tests.{length-tab, tab-get_or}
use Rattle.gf2.specs.Solve.{Sys, sys}
use Rattle.gf2.specs.System.{consistent}
use Rattle.meaning.specs.Answers.{Reply, leaving, writing}
use Rattle.meaning.specs.declared.Answer.{Answer}
use Rattle.meaning.specs.declared.Answer.TheVariants.{Unique, Ambiguous, Inconsistent}
use Rattle.verdict.specs.OffRows.{constant, row_settled, row_first, row_last, row_strips, row_verdict}
use Rattle.verdict.specs.Whole.{by_dimension}

pub map-tab : {A B : Type 0} (f : A → B) (n : ℕ) (g : ℕ → A) → map f (tab n g) ≡ tab n (λ (i : ℕ). f (g i))
map-tab f zero g = refl
map-tab {A} {B} f (suc n) g = ap {B = List B} (λ t. f (g 0) ∷ t) (map-tab f n (λ (i : ℕ). g (suc i)))

-- ---- the strips

module _ (c w : ℕ) (vals : List ℕ) where
  abbrev N : ℕ
  N = length vals / w

  -- a strip, from what it says of each row
  pub strip : (f : Row → ℕ) (S : List ℕ) → length S ≡ N → ((j : ℕ) → j < length S → get_or S j 0 ≡ f (row w vals j)) → S ≡ map f (rows_of w vals)
  strip f S l e =
      sym (tab-get_or S 0 (λ (j : ℕ). f (row w vals j)) (λ j h. sym (e j h)))
      ∙ ap (λ (n : ℕ). tab n (λ (j : ℕ). f (row w vals j))) l ∙ sym (map-tab f N (row w vals))

  -- the three of them, and the bytes behind
  pub written : (o r S F L : List ℕ) → r ≡ drop N (drop N o) → length S ≡ N → length F ≡ N → length L ≡ N
      → ((j : ℕ) → j < length S → get_or S j 0 ≡ row_settled c (row w vals j))
      → ((j : ℕ) → j < length F → get_or F j 0 ≡ row_first c (row w vals j))
      → ((j : ℕ) → j < length L → get_or L j 0 ≡ row_last c (row w vals j))
      → S ++ (F ++ (L ++ drop N r)) ≡ row_strips c (rows_of w vals) ++ drop (3 * N) o
  unfolding row_strips
  written o r S F L er ls lf ll es ef el =
      let e : N + N + N ≡ 3 * N = omega arith in
      let rest : drop N r ≡ drop (3 * N) o = ap (drop N) (er ∙ drop-drop N N o) ∙ drop-drop N (N + N) o ∙ ap (λ (k : ℕ). drop k o) e in
      sym (append_assoc S F (L ++ drop N r)) ∙ sym (append_assoc (S ++ F) L (drop N r))
      ∙ ap₂ {C = List ℕ} ◌++◌
      (ap₂ {C = List ℕ} ◌++◌ (ap₂ {C = List ℕ} ◌++◌ (strip (row_settled c) S ls es) (strip (row_first c) F lf ef)) (strip (row_last c) L ll el))
      rest

-- ---- the verdict

module _ (c w : ℕ) (eqs vals : List ℕ) (g m rank : ℕ) (out : List ℕ) where
  abbrev left : Sys
  left = sys (rows_of w eqs) (rows_of w vals) rank

  abbrev agree : Bool
  agree = consistent c (constant c) (rows_of w eqs)

  strips-length : length (row_strips c (rows_of w vals)) ≡ 3 * (length vals / w)
  unfolding row_strips
  strips-length =
      let e : length (rows_of w vals) ≡ length vals / w = length-tab (length vals / w) (row w vals) in
      simp (length-append, length-map) (omega (arith, e))

  pub contradicted : agree ≡ false → leaving out (Inconsistent g m) ≡ row_verdict c g m left out
  unfolding row_verdict
  contradicted e = rw e refl

  pub sound-read : agree ≡ true → (a : Answer) → a ≡ by_dimension g m (g - rank) → (out' : List ℕ) → out' ≡ row_strips c (rows_of w vals) ++ drop (3 * (length vals / w)) out
      → leaving out' a ≡ row_verdict c g m left out
  unfolding row_verdict
  sound-read e a is out' z =
      rw e
      (ap₂ {C = Reply} (λ l b. leaving l b) (z ∙ ap (λ (k : ℕ). row_strips c (rows_of w vals) ++ drop k out) (sym strips-length)) is
      ∙ each (eqb (g - rank) 0))
    where
      each : (b : Bool) → writing (row_strips c (rows_of w vals)) out (pick b (Unique g m) (Ambiguous g m (g - rank)))
          ≡ pick b (writing (row_strips c (rows_of w vals)) out (Unique g m)) (writing (row_strips c (rows_of w vals)) out (Ambiguous g m (g - rank)))
      each true = refl
      each false = refl
