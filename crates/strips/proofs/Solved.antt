-- What is decided after `system` has solved a strip.
--     asked        what `system` was asked and answers
--     stopped      what no fault of form is found in fits, and more unknowns than are allowed are the answer
--     in_room      else the equations are there
--     decided      and what is read off the rows is the reply
use mathlib.Core.Path.{◌≡◌, refl, sym, ap, ap₂, ◌∙◌, subst}
use Prim.Native.Nat.{ℕ, ◌+◌, ◌*◌, ◌^◌, ◌≤◌, ◌<◌}
use native.Mathlib.Omega.{arith}
use mathlib.Core.Bool.{true}
use mathlib.Core.List.{List}
use lib.ListN.{length, take, replicate, length-take, length-replicate}
use borrow.Author.Tests.{lt-ltb, le-ltb}
use Rattle.std.specs.Prelude.{Result, Ok, Err}
use Rattle.bits.specs.Rows.{Row, row}
use Rattle.gf2.specs.Solve.{Sys, solve}
use Rattle.meaning.specs.Sheet.{rule_at, rules}
use Rattle.meaning.specs.Open.{unknowns}
use Rattle.meaning.specs.Answers.{Reply, leaving}
use Rattle.meaning.specs.Results.{refusal}
use Rattle.meaning.specs.declared.Answer.TheVariants.{TooMany}
use Rattle.model.specs.RowValues.{rows_out, rows_system}
use Rattle.descent.specs.Descending.{refused}
use Rattle.descent.specs.declared.Stop.{Stop}
use Rattle.descent.specs.declared.Stop.TheVariants.{Misfit, Over}
use Rattle.lanes.specs.Lanes.{row_reply, concluding}
use Rattle.lanes.proofs.Fitting.{Fit, concluding-is}
use Rattle.system.specs.Solving.{fitting, leaves, solving}
use Rattle.system.specs.declared.Solved.{Solved}
use Rattle.system.proofs.LastStep.{whole}
use Rattle.system.proofs.Promise.{all_fit, Solution, never_misfit, solved-tells, over-tells, rank_few}
use Rattle.strips.specs.Placing.{Placed}
use Rattle.strips.specs.Deciding.{repair_deciding}
use Rattle.strips.specs.Answering.{record_words, equation_words, Roomy, answering}
use Rattle.strips.specs.declared.strip.Strip.{Strip}
use Rattle.strips.proofs.Lanewise.{bare-lead, verdict-lanes}
use Rattle.strips.proofs.Wide.{wide_fits}

-- what `system` was asked, and what it answers
pub record Asked (T : Strip) (out vals us eqs : List ℕ) (a : Result Solved Stop) (v u e : List ℕ) : Type 0 where
  pub roomy : Roomy T out
  pub rows_v : length vals ≡ record_words T
  pub rows_u : length us ≡ record_words T
  pub rows_e : length eqs ≡ equation_words T
  pub tells : leaves a v u e ≡ solving T.terms.n T.terms.r T.terms.most T.terms.coeffs T.terms.words T.sheet.now T.lost.now vals us eqs

-- `vals` held zeros before the rows were placed
pub asked : (T : Strip) (out : List ℕ) {zeros vals us eqs : List ℕ} {a : Result Solved Stop} {v u e : List ℕ} → Roomy T out
    → zeros ≡ replicate (record_words T) 0 → (length us ≡ record_words T) × (length eqs ≡ equation_words T) → length vals ≡ length zeros
    → leaves a v u e ≡ solving T.terms.n T.terms.r T.terms.most T.terms.coeffs T.terms.words T.sheet.now T.lost.now vals us eqs → Asked T out vals us eqs a v u e
asked T out roomy z rows k q = record { roomy = roomy; rows_v = k ∙ ap length z ∙ length-replicate _ 0; rows_u = rows.0; rows_e = rows.1; tells = q }

module _ {T : Strip} {out vals us eqs : List ℕ} {a : Result Solved Stop} {v u e : List ℕ} (Q : Asked T out vals us eqs a v u e) where
  abbrev n : ℕ
  n = T.terms.n

  abbrev r : ℕ
  r = T.terms.r

  abbrev c : ℕ
  c = T.terms.most

  abbrev co : ℕ
  co = T.terms.coeffs

  abbrev wd : ℕ
  wd = T.terms.words

  abbrev s : List ℕ
  s = T.sheet.now

  abbrev strip : List ℕ
  strip = T.records.now

  abbrev w : List ℕ
  w = T.lost.now

  abbrev G : ℕ
  G = unknowns n (rules n s) w

  hw : co + 9 ≡ wd
  hw = sym T.wide

  fit : fitting n (length s) (length w) r c co wd (length vals) (length us) (length eqs) ≡ true
  fit =
      let F = T.formed in
      let rows = λ (k : ℕ). k * wd in
      all_fit n r c co wd s w vals us eqs F.small F.long F.symbols F.check (omega (arith, hw)) (wide_fits wd T.narrow) T.placed
      (Q.rows_v ∙ ap rows F.symbols) (Q.rows_u ∙ ap rows F.symbols) (Q.rows_e ∙ ap (λ (k : ℕ). (k + r) * wd) F.symbols)

  pub stopped : (o : Stop) → a ≡ Err o → leaving out (refusal (refused o)) ≡ answering T out
  unfolding repair_deciding
  stopped Misfit x = never_misfit n r c co wd s w vals us eqs fit a v u e Q.tells x
  stopped (Over g) x =
      let (k, h, o) = over-tells n r c co wd s w vals us eqs fit a v u e Q.tells g x in
      ap (λ (i : ℕ). leaving out (TooMany i)) k ∙ sym (rw (lt-ltb c G h) refl)

  module _ (g m rank : ℕ) (x : a ≡ Ok (record { g = g; m = m; rank = rank })) where
    S : Solution n r c co wd s w vals us eqs g m rank v u e
    S = solved-tells n r c co wd s w vals us eqs g m rank v u e (ap (λ (y : Result Solved Stop). leaves y v u e) (sym x) ∙ Q.tells)

    pub in_room : m * wd ≤ length e
    in_room = omega (arith, S.rows_e, length-take (m * wd) e)

    module _ (placed : Placed co wd (length w) strip vals) where
      pl : Placed co wd (2 ^ n) strip vals
      pl = subst (λ (i : ℕ). Placed co wd i strip vals) T.formed.symbols placed

      reads : Fit co wd g rank (length (take (m * wd) e)) (length v) (length out)
      reads =
          let some : 0 < wd = omega (arith, hw) in
          let (av, bv) = whole wd (2 ^ n) v some S.rows_v in
          record {
            wide = omega (arith, hw);
            records = av;
            roomy = omega (arith, bv, Q.roomy, T.formed.symbols);
            pivots = rank_few n r c co wd s w vals us eqs g m rank v u e S (λ j h. bare-lead co wd (2 ^ n) strip vals hw pl j (omega (arith, T.formed.symbols)));
            equations = (whole wd m (take (m * wd) e) some S.rows_e).0;
          }

      pub decided : (y : Reply) → y ≡ concluding co wd g m rank (take (m * wd) e) v out → y ≡ answering T out
      unfolding repair_deciding
      decided y p =
          let E : List Row = rows_system co wd (rule_at s) n w (row wd vals) r in
          let X : List Row = (rows_out co wd (rule_at s) n w (row wd vals)).block in
          p ∙ concluding-is co wd g m rank (take (m * wd) e) v out reads ∙ ap (λ (z : Sys). row_reply co g m z out) S.system
          ∙ ap₂ (λ (i j : ℕ). row_reply co i j (solve co E X) out) S.unknown S.many
          ∙ sym (verdict-lanes n s w strip vals co wd r hw T.formed.symbols T.formed.ordered pl (omega (arith, S.unknown, S.few, T.placed)) out)
          ∙ sym (rw (le-ltb c G (omega (arith, S.unknown, S.few))) refl)
