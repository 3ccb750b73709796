-- The model on symbols that have rows, at any rows.
--     words_bound, along_wide     sums, 0, 1 and unknowns have w words; so has every value that is bound to have them
--     rows-wide, system-wide      each row that the model finds has w words, if those of the symbols have
--     rows-most                   at most N equations, but for the check's
--     rows_next, rows_sizes       as many unknowns as 01's g; N rows of symbols and of u
--     rows-equations              the equations, with r more, are 01's m
use mathlib.Core.Path.{◌≡◌, refl, ap, ap₂, ◌∙◌}
use Prim.Native.Nat.{ℕ, zero, suc, ◌+◌, ◌^◌, ◌≤◌, ◌<◌}
use native.Mathlib.Omega.{arith}
use native.Mathlib.Nat.{zero-add}
use mathlib.Core.Bool.{Bool}
use mathlib.Core.List.{List, [], ◌∷◌, map}
use lib.ListN.{length, replicate, length-set, length-replicate}
use Rattle.bits.specs.Vectors.{tab, ones}
use Rattle.bits.specs.Rows.{Row, Wide}
use Rattle.bits.proofs.Tests.{length-tab}
use Rattle.bits.proofs.RowXor.{length-⊻}
use Rattle.meaning.specs.Sheet.{Rule}
use Rattle.meaning.specs.Open.{opens, open_all, open_free, closed_frozen, unknowns, equations}
use Rattle.model.specs.Model.{Out, start, symbol}
use Rattle.model.specs.Related.{Along, nil, cons, Sym, gone, known, Bound, BoundOut}
use Rattle.model.specs.Counted.{Counted, lost}
use Rattle.model.specs.RowValues.{row_values, held, placed, rows_out, rows_system}
use Rattle.model.proofs.Relate.{along_append, decode_bound, checks_bound}
use Rattle.model.proofs.Halves.{opens-symbols}
use Rattle.model.proofs.AtBits.{rules-start}
use Rattle.model.proofs.Steps.{decode-most, counted}

-- ---- how wide

-- what a relation says of each value that the model finds: it has w words
abbrev pub HasWords : ℕ → Row → Row → Type 0
HasWords w a b = length a ≡ w

pub words_bound : (lim c w : ℕ) → Bound (HasWords w) lim (row_values c w) (row_values c w)
words_bound lim c w =
    record {
      plus = λ {a} {a'} p q. length-⊻ a a' w p q;
      nought = length-replicate w 0;
      unit = length-set (replicate w 0) c 1 ∙ length-replicate w 0;
      unknown = λ k i. length-set (replicate w 0) _ _ ∙ length-replicate w 0;
    }

pub along_wide : {w : ℕ} {l m : List Row} → Along (HasWords w) l m → Wide w l
along_wide nil = tt
along_wide (cons h t) = (h, along_wide t)

placed-wide : (w : ℕ) (d : List ℕ) (f : ℕ → Row) → ((j : ℕ) → j < length d → length (f j) ≡ w) → Along (Sym (HasWords w)) (placed d f) (placed d f)
placed-wide w [] f k = nil
placed-wide w (s ∷ d) f k = cons (one s) (placed-wide w d (λ (j : ℕ). f (suc j)) (λ j p. k (suc j) (omega arith)))
  where
    one : (s : ℕ) → Sym (HasWords w) (held s (f 0)) (held s (f 0))
    one zero = known (k 0 (omega arith))
    one (suc zero) = known (k 0 (omega arith))
    one (suc (suc s)) = gone

module _ (c w : ℕ) (rule : ℕ → Rule) (n : ℕ) (d : List ℕ) (f : ℕ → Row) where
  abbrev O : Out Row
  O = rows_out c w rule n d f

  rows_bound : ((j : ℕ) → j < length d → length (f j) ≡ w) → BoundOut (HasWords w) O O
  rows_bound k =
      let lim = O.after.next in
      decode_bound lim (row_values c w) (row_values c w) (words_bound lim c w) rule n (placed-wide w d f k) {s = start} {t = start} (record { us = nil; next = refl; eqs = nil }) (omega arith)

  pub rows-wide : ((j : ℕ) → j < length d → length (f j) ≡ w) → Wide w O.block × Wide w O.after.us × Wide w O.after.eqs
  rows-wide k = let b = rows_bound k in (along_wide b.block, along_wide b.after.us, along_wide b.after.eqs)

  pub system-wide : ((j : ℕ) → j < length d → length (f j) ≡ w) → (r : ℕ) → Wide w (rows_system c w rule n d f r)
  system-wide k r = along_wide (along_append (rows_bound k).after.eqs (checks_bound O.after.next (row_values c w) (row_values c w) (words_bound O.after.next c w) r (tab (2 ^ n) rule) (rows_bound k).after.us))

  -- ---- how many

  pub rows-most : length O.after.eqs ≤ 2 ^ n
  rows-most = omega (arith, decode-most (row_values c w) rule n (placed d f) start)

  lost-placed : (d : List ℕ) (f : ℕ → Row) → map lost (placed d f) ≡ map lost (map (symbol (row_values c w)) d)
  lost-placed [] f = refl
  lost-placed (s ∷ d) f = ap₂ {C = List Bool} ◌∷◌ (one s) (lost-placed d (λ (j : ℕ). f (suc j)))
    where
      one : (s : ℕ) → lost (held s (f 0)) ≡ lost (symbol (row_values c w) s)
      one zero = refl
      one (suc zero) = refl
      one (suc (suc s)) = refl

  module _ (l : length d ≡ 2 ^ n) where
    placed-counted : Counted rule n (placed d f) start O
    placed-counted = counted (row_values c w) rule n (placed d f) (length-tab (length d) _ ∙ l) start

    opens-placed : opens n (map lost (placed d f)) ≡ open_all n d
    opens-placed = ap (opens n) (lost-placed d f) ∙ opens-symbols (row_values c w) n d l

    pub rows_next : O.after.next ≡ unknowns n (tab (2 ^ n) rule) d
    unfolding unknowns
    rows_next = placed-counted.next ∙ zero-add _ ∙ ap₂ (λ (ks : List Rule) (o : List Bool). ones (open_free ks o)) (rules-start rule (2 ^ n)) opens-placed

    pub rows_sizes : (length O.block ≡ 2 ^ n) × (length O.after.us ≡ 2 ^ n)
    rows_sizes = (placed-counted.block, placed-counted.us ∙ zero-add (2 ^ n))

    pub rows-equations : (r : ℕ) → length O.after.eqs + r ≡ equations n (tab (2 ^ n) rule) r d
    unfolding equations
    rows-equations r =
        ap (λ (k : ℕ). k + r) (placed-counted.eqs ∙ zero-add _ ∙ ap₂ (λ (ks : List Rule) (o : List Bool). ones (closed_frozen ks o)) (rules-start rule (2 ^ n)) opens-placed)
