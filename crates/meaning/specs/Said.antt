-- What 01 says of decoding, sentence by sentence: of the five numbers v that are answered, and the bytes x that are left in a buffer that held `out`.
--     Said     a field for each sentence. That every result of `decode` has them, and every record of a stream, is proved
-- `s` is the sheet, `c` the ceiling, `w` the word.
use Rattle.std.specs.Prelude.{◌≡◌, ◌↔◌, ℕ, ◌*◌, ◌^◌, ◌≤◌, ◌<◌, false, List, map, length, drop, get_or}
use Rattle.bits.specs.Vectors.{ones}
use Rattle.meaning.specs.Sheet.{rules}
use Rattle.meaning.specs.Codewords.{erased, OneAgrees, NoneAgrees}
use Rattle.meaning.specs.Open.{unknowns}
use Rattle.meaning.specs.Answers.{refuses, form_refusals}

pub record Said (n : ℕ) (s : List ℕ) (r c : ℕ) (w out v x : List ℕ) : Type 0 where
  -- 2: the output is untouched
  pub two_untouched : get_or v 0 0 ≡ 2 → x ≡ out
  -- bytes past 3N stay
  pub rest_stays : drop (3 * 2 ^ n) x ≡ drop (3 * 2 ^ n) out
  -- 18 carries g, which is above the ceiling; the output is untouched
  pub size_told : get_or v 0 0 ≡ 18 → (get_or v 2 0 ≡ unknowns n (rules n s) w) × (c < unknowns n (rules n s) w) × (x ≡ out)
  -- where no refusal but 18 applies, code 0 exactly when one codeword agrees, and g is not above the ceiling
  pub one_agrees : refuses (form_refusals n s r c w (length out)) ≡ false → (get_or v 0 0 ≡ 0) ↔ ((unknowns n (rules n s) w ≤ c) × OneAgrees n (rules n s) r w)
  -- and code 2 exactly when none does
  pub none-agrees : refuses (form_refusals n s r c w (length out)) ≡ false → (get_or v 0 0 ≡ 2) ↔ ((unknowns n (rules n s) w ≤ c) × NoneAgrees n (rules n s) r w)
  -- d ≤ g ≤ erased symbols
  pub counts : refuses (form_refusals n s r c w (length out)) ≡ false → (get_or v 4 0 ≤ get_or v 2 0) × (get_or v 2 0 ≤ ones (map erased w))
