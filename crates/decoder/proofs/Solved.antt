-- What is decided after `system` has solved a word.
--     asked        what `system` was asked and answers
--     stopped      what no fault of form is found in fits, and more unknowns than are allowed are the answer
--     in_room      else the equations are there
--     decided      and what is read off the rows is the verdict
use mathlib.Core.Path.{◌≡◌, refl, sym, ap, ap₂, ◌∙◌}
use Prim.Native.Nat.{ℕ, ◌+◌, ◌*◌, ◌^◌, ◌≤◌, ◌<◌}
use native.Mathlib.Omega.{arith}
use mathlib.Core.Bool.{Bool, true}
use mathlib.Core.List.{List}
use lib.ListN.{length, take, replicate, length-take, length-replicate}
use borrow.Author.Tests.{lt-ltb, le-ltb}
use Rattle.std.specs.Prelude.{Result, Ok, Err}
use Rattle.bits.specs.Vectors.{tab}
use Rattle.bits.specs.Rows.{Row, row}
use Rattle.gf2.specs.Solve.{Sys, solve}
use Rattle.meaning.specs.Sheet.{rule_at, rules}
use Rattle.meaning.specs.Codewords.{candidates}
use Rattle.meaning.specs.Open.{unknowns}
use Rattle.meaning.specs.Answers.{Reply, leaving, verdict}
use Rattle.meaning.specs.Results.{refusal}
use Rattle.meaning.specs.declared.Answer.TheVariants.{TooMany}
use Rattle.model.specs.RowValues.{rows_out, rows_system}
use Rattle.model.proofs.RowValues.{rows_next}
use Rattle.descent.specs.Descending.{refused}
use Rattle.descent.specs.declared.Stop.{Stop}
use Rattle.descent.specs.declared.Stop.TheVariants.{Misfit, Over}
use Rattle.verdict.specs.OffRows.{constant, row_strips, row_verdict}
use Rattle.verdict.specs.Concluding.{concluding}
use Rattle.verdict.proofs.Fitting.{Fit, concluding-is}
use Rattle.verdict.proofs.Lanes.{constant-constant, lane-verdict}
use Rattle.system.specs.Solving.{fitting, leaves, solving}
use Rattle.system.specs.declared.Solved.{Solved}
use Rattle.system.proofs.LastStep.{whole}
use Rattle.system.proofs.Promise.{all_fit, Solution, never_misfit, solved-tells, over-tells, rank_few}
use Rattle.decoder.specs.Deciding.{deciding}
use Rattle.decoder.specs.Placing.{Placed}
use Rattle.decoder.specs.Answering.{symbol_words, equation_words, Roomy, answering}
use Rattle.decoder.specs.declared.word.Word.{Word}
use Rattle.decoder.proofs.Placing.{placed-bare, placed-candidates}
use Rattle.decoder.proofs.Wide.{wide_fits}

-- what `system` was asked, and what it answers
pub record Asked (W : Word) (out vals us eqs : List ℕ) (a : Result Solved Stop) (v u e : List ℕ) : Type 0 where
  pub roomy : Roomy W out
  pub rows_v : length vals ≡ symbol_words W
  pub rows_u : length us ≡ symbol_words W
  pub rows_e : length eqs ≡ equation_words W
  pub tells : leaves a v u e ≡ solving W.terms.n W.terms.r W.terms.most W.terms.coeffs W.terms.words W.sheet.now W.symbols.now vals us eqs

-- `vals` held zeros before the rows were placed
pub asked : (W : Word) (out : List ℕ) {zeros vals us eqs : List ℕ} {a : Result Solved Stop} {v u e : List ℕ} → Roomy W out
    → zeros ≡ replicate (symbol_words W) 0 → (length us ≡ symbol_words W) × (length eqs ≡ equation_words W) → length vals ≡ length zeros
    → leaves a v u e ≡ solving W.terms.n W.terms.r W.terms.most W.terms.coeffs W.terms.words W.sheet.now W.symbols.now vals us eqs → Asked W out vals us eqs a v u e
asked W out roomy z rows k q = record { roomy = roomy; rows_v = k ∙ ap length z ∙ length-replicate _ 0; rows_u = rows.0; rows_e = rows.1; tells = q }

module _ {W : Word} {out vals us eqs : List ℕ} {a : Result Solved Stop} {v u e : List ℕ} (Q : Asked W out vals us eqs a v u e) where
  abbrev n : ℕ
  n = W.terms.n

  abbrev r : ℕ
  r = W.terms.r

  abbrev c : ℕ
  c = W.terms.most

  abbrev co : ℕ
  co = W.terms.coeffs

  abbrev wd : ℕ
  wd = W.terms.words

  abbrev s : List ℕ
  s = W.sheet.now

  abbrev w : List ℕ
  w = W.symbols.now

  abbrev G : ℕ
  G = unknowns n (rules n s) w

  hw : co < wd
  hw = omega (arith, W.wide)

  fit : fitting n (length s) (length w) r c co wd (length vals) (length us) (length eqs) ≡ true
  fit =
      let F = W.formed in
      let rows = λ (k : ℕ). k * wd in
      all_fit n r c co wd s w vals us eqs F.small F.long F.symbols F.check hw (wide_fits wd W.narrow) W.placed
      (Q.rows_v ∙ ap rows F.symbols) (Q.rows_u ∙ ap rows F.symbols) (Q.rows_e ∙ ap (λ (k : ℕ). (k + r) * wd) F.symbols)

  pub stopped : (o : Stop) → a ≡ Err o → leaving out (refusal (refused o)) ≡ answering W out
  unfolding deciding
  stopped Misfit x = never_misfit n r c co wd s w vals us eqs fit a v u e Q.tells x
  stopped (Over g) x =
      let (k, h, o) = over-tells n r c co wd s w vals us eqs fit a v u e Q.tells g x in
      ap (λ (i : ℕ). leaving out (TooMany i)) k ∙ sym (rw (lt-ltb c G h) refl)

  module _ (g m rank : ℕ) (x : a ≡ Ok (record { g = g; m = m; rank = rank })) where
    S : Solution n r c co wd s w vals us eqs g m rank v u e
    S = solved-tells n r c co wd s w vals us eqs g m rank v u e (ap (λ (y : Result Solved Stop). leaves y v u e) (sym x) ∙ Q.tells)

    pub in_room : m * wd ≤ length e
    in_room = omega (arith, S.rows_e, length-take (m * wd) e)

    module _ (P : Placed co wd (length w) w vals) where
      abbrev E : List Row
      E = rows_system co wd (rule_at s) n w (row wd vals) r

      abbrev X : List Row
      X = (rows_out co wd (rule_at s) n w (row wd vals)).block

      hg : g ≤ 64 * co
      hg = omega (arith, S.few, W.placed)

      next : (rows_out co wd (rule_at s) n w (row wd vals)).after.next ≤ g
      unfolding rules
      next = omega (arith, rows_next co wd (rule_at s) n w (row wd vals) W.formed.symbols, S.unknown)

      reads : Fit co wd g rank (length (take (m * wd) e)) (length v) (length out)
      reads =
          let some : 0 < wd = omega (arith, W.wide) in
          let (av, bv) = whole wd (2 ^ n) v some S.rows_v in
          record {
            wide = hw;
            symbols = av;
            roomy = omega (arith, bv, Q.roomy, W.formed.symbols);
            pivots = rank_few n r c co wd s w vals us eqs g m rank v u e S (placed-bare co wd hw w vals P);
            equations = (whole wd m (take (m * wd) e) some S.rows_e).0;
          }

      verdict-is : row_verdict co g m (solve co E X) out ≡ verdict n g m (candidates n (rules n s) r w) out
      unfolding rules row_verdict row_strips
      verdict-is =
          sym (lane-verdict co wd g hw hg (rule_at s) n w (row wd vals) next (placed-bare co wd hw w vals P) (constant co) (constant-constant co wd hw g hg) W.formed.symbols (sym S.unknown) W.formed.ordered r m out)
          ∙ ap (λ (cs : List (List Bool)). verdict n g m cs out) (placed-candidates co wd hw n (tab (2 ^ n) (rule_at s)) r w vals P)

      pub decided : (y : Reply) → y ≡ concluding co wd g m rank (take (m * wd) e) v out → y ≡ answering W out
      unfolding deciding
      decided y p =
          p ∙ concluding-is co wd g m rank (take (m * wd) e) v out reads ∙ ap (λ (z : Sys). row_verdict co g m z out) S.system ∙ verdict-is
          ∙ ap₂ (λ (i j : ℕ). verdict n i j (candidates n (rules n s) r w) out) S.unknown S.many
          ∙ sym (rw (le-ltb c G (omega (arith, S.unknown, S.few))) refl)
