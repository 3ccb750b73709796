-- The bytes of an answer record before its strips.
--     numbers_five            an answer has five numbers
--     headed, header-long     two bytes for each, and zeros behind them
--     two_bytes_lem               two bytes hold a number below 65536
use mathlib.Core.Path.{◌≡◌, refl, sym, ap, subst, ◌∙◌}
use Prim.Native.Nat.{ℕ, ◌+◌, ◌*◌, ◌-◌, ◌/◌, ◌%◌, ◌<◌}
use native.Mathlib.Omega.{arith}
use mathlib.Core.List.{List, ◌++◌, map, flatten}
use lib.ListN.{length, get_or, replicate}
use Rattle.bits.specs.Vectors.{tab}
use Rattle.bits.proofs.Tests.{tab-get_or}
use Rattle.meaning.specs.Limits.{head_bytes}
use Rattle.meaning.specs.Answers.{numbers_of}
use Rattle.meaning.specs.Stream.{two_bytes, header}
use Rattle.meaning.specs.declared.Answer.{Answer}
use Rattle.meaning.specs.declared.Answer.TheVariants.{Done, Unique, Ambiguous, Inconsistent, LaneInconsistent, BadShape, BadRecord, BadCheck, BadLength, BadSymbol, ShortOutput, BadCeiling, TooMany, HoldsNothing}

pub numbers_five : (a : Answer) → length (numbers_of a) ≡ 5
numbers_five Done = refl
numbers_five (Unique g m) = refl
numbers_five (Ambiguous g m d) = refl
numbers_five (Inconsistent g m) = refl
numbers_five (LaneInconsistent t g m) = refl
numbers_five BadShape = refl
numbers_five (BadRecord i) = refl
numbers_five BadCheck = refl
numbers_five BadLength = refl
numbers_five (BadSymbol i) = refl
numbers_five ShortOutput = refl
numbers_five BadCeiling = refl
numbers_five (TooMany g) = refl
numbers_five HoldsNothing = refl

module _ (a : Answer) (v : List ℕ) (e : v ≡ numbers_of a) where
  five : length v ≡ 5
  five = ap length e ∙ numbers_five a

  pub headed : flatten (tab 5 (λ (i : ℕ). two_bytes (get_or v i 0))) ++ replicate (head_bytes - 10) 0 ≡ header a
  unfolding flatten
  headed =
      let t : tab 5 (λ (i : ℕ). get_or v i 0) ≡ v = subst (λ (k : ℕ). tab k (λ (i : ℕ). get_or v i 0) ≡ v) five (tab-get_or v 0 (λ (i : ℕ). get_or v i 0) (λ i l. refl)) in
      ap (λ (l : List ℕ). flatten (map two_bytes l) ++ replicate (head_bytes - 10) 0) (t ∙ e)

-- two bytes hold a number
pub two_bytes_lem : (x : ℕ) → x < 65536 → x ≡ x % 256 + 256 * (x / 256 % 256)
two_bytes_lem x h = omega arith

pub header-long : (a : Answer) → length (header a) ≡ head_bytes
unfolding flatten head_bytes
header-long a = ap length (sym (headed a (numbers_of a) refl))
