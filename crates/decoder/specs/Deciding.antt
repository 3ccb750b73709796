-- Decoding, part by part.
--     deciding       what is left once no fault of form is found: too many unknowns, or the verdict
--     Formed         no fault of form in a sheet, a check and a word
use Rattle.std.specs.Prelude.{◌≡◌, ℕ, ◌*◌, ◌^◌, ◌≤◌, true, List, length, ltb}
use Rattle.bits.specs.Vectors.{pick}
use Rattle.meaning.specs.Limits.{largest_n, record_bytes}
use Rattle.meaning.specs.Sheet.{rules, early}
use Rattle.meaning.specs.Codewords.{candidates}
use Rattle.meaning.specs.Open.{unknowns, equations}
use Rattle.meaning.specs.Answers.{check_length, Reply, leaving, verdict}
use Rattle.meaning.specs.declared.Answer.TheVariants.{TooMany}

unfoldable pub deciding : ℕ → List ℕ → ℕ → ℕ → List ℕ → List ℕ → Reply
deciding n s r c w out =
    let ks = rules n s in
    let g = unknowns n ks w in
    pick (ltb c g) (leaving out (TooMany g)) (verdict n g (equations n ks r w) (candidates n ks r w) out)

pub record Formed (n : ℕ) (s : List ℕ) (r : ℕ) (w : List ℕ) : Type 0 where
  pub small : n ≤ largest_n
  pub long : length s ≡ 2 ^ n * record_bytes
  pub ordered : early 0 (rules n s) ≡ true
  pub check : check_length r ≡ true
  pub symbols : length w ≡ 2 ^ n
