-- A record, in the parts that the code writes.
--     small, Small a    whether each number of an answer fits two bytes
--     laid k b          three strips that start with the three parts of b, k bytes each
use Rattle.std.specs.Prelude.{◌≡◌, ℕ, ◌*◌, Bool, true, List, ◌++◌, take, drop, ltb}
use Rattle.bits.specs.Vectors.{all}
use Rattle.meaning.specs.Answers.{numbers_of}
use Rattle.meaning.specs.Stream.{padded}
use Rattle.meaning.specs.declared.Answer.{Answer}

unfoldable pub small : Answer → Bool
small a = all (λ (x : ℕ). ltb x 65536) (numbers_of a)

abbrev pub Small : Answer → Type 0
Small a = small a ≡ true

unfoldable pub laid : ℕ → List ℕ → List ℕ
laid k b = padded (take k b) ++ padded (take k (drop k b)) ++ padded (drop (2 * k) b)
