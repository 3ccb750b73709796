-- Rows in the room that there is for them.
--     longest                       a check is no longer than the longest
--     wide_fits                     a row is not too wide
--     all_rows, check_rows          there is room for the rows of the symbols, and for those of the check behind them
use mathlib.Core.Path.{◌≡◌, refl}
use Prim.Native.Nat.{ℕ, ◌+◌, ◌*◌, ◌^◌, ◌≤◌}
use native.Mathlib.Nat.{add-mul, mul-le-mul}
use native.Mathlib.Omega.{arith}
use mathlib.Core.Bool.{Bool, true, false, ◌||◌}
use lib.ListN.{length}
use lib.Dec.{eqb}
use lib.Pow.{pow_mono}
use borrow.Author.Tests.{eqb-true}
use Rattle.meaning.specs.Limits.{largest_n, largest_ceiling}
use Rattle.meaning.specs.Answers.{check_length}
use Rattle.descent.specs.Descending.{widest}
use Rattle.system.specs.Solving.{longest_check}
use Rattle.decoder.specs.Rooms.{most_wide, most_words}
use Rattle.decoder.specs.Answering.{symbol_words, equation_words}
use Rattle.decoder.specs.declared.word.Word.{Word}

pub longest : (r : ℕ) → check_length r ≡ true → r ≤ longest_check
unfolding longest_check
longest r h = go (eqb r 0) (eqb r 6) refl refl h
  where
    go : (a b : Bool) → eqb r 0 ≡ a → eqb r 6 ≡ b → a || b || eqb r 11 ≡ true → r ≤ 11
    go true b p q k = let z = eqb-true r 0 p in omega arith
    go false true p q k = let z = eqb-true r 6 q in omega arith
    go false false p q k = let z = eqb-true r 11 k in omega arith

pub wide_fits : (w : ℕ) → w ≤ most_wide → w ≤ widest
unfolding widest most_wide largest_ceiling
wide_fits w h = omega arith

module _ (W : Word) where
  pub all_rows : symbol_words W ≤ most_words
  unfolding most_words
  all_rows =
      let p = pow_mono {i = W.terms.n} {j = largest_n} W.formed.small in
      let q : length W.symbols.now ≤ 2 ^ largest_n = omega (arith, W.formed.symbols) in
      mul-le-mul q W.narrow

  pub check_rows : equation_words W ≤ symbol_words W + longest_check * most_wide
  check_rows = omega (arith, add-mul (length W.symbols.now) W.terms.r W.terms.words, mul-le-mul (longest W.terms.r W.formed.check) W.narrow)
