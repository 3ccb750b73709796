-- Rows in the room that there is for them.
--     wide_fits                 a row is not too wide
--     all_rows, fewer_rows      there is room for the rows of the equations, and so for those of the records
use Prim.Native.Nat.{ℕ, ◌+◌, ◌^◌, ◌≤◌}
use native.Mathlib.Nat.{add-mul, mul-le-mul}
use native.Mathlib.Omega.{arith}
use lib.ListN.{length}
use lib.Pow.{pow_mono}
use Rattle.meaning.specs.Limits.{largest_n, largest_ceiling}
use Rattle.descent.specs.Descending.{widest}
use Rattle.system.specs.Solving.{longest_check}
use Rattle.decoder.proofs.Wide.{longest}
use Rattle.strips.specs.Rooms.{most_wide, most_words}
use Rattle.strips.specs.Answering.{record_words, equation_words}
use Rattle.strips.specs.declared.strip.Strip.{Strip}

pub wide_fits : (w : ℕ) → w ≤ most_wide → w ≤ widest
unfolding widest most_wide largest_ceiling
wide_fits w h = omega arith

module _ (T : Strip) where
  pub all_rows : equation_words T ≤ most_words
  unfolding most_words
  all_rows =
      let p = pow_mono {i = T.terms.n} {j = largest_n} T.formed.small in
      let q : length T.lost.now + T.terms.r ≤ 2 ^ largest_n + longest_check = omega (arith, T.formed.symbols, longest T.terms.r T.formed.check) in
      mul-le-mul q T.narrow

  pub fewer_rows : record_words T ≤ equation_words T
  fewer_rows = omega (arith, add-mul (length T.lost.now) T.terms.r T.terms.words)
