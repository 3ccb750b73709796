-- What the contracts of the inner functions say, and no public one.
--     LastUsed x r      r is the place of the last word that is not 0, or None where all are 0
--     over w n f l      f at each of the first n rows of w words
use Rattle.std.specs.Prelude.{◌≡◌, ◌≢◌, ℕ, zero, suc, ◌<◌, Option, MatchOption, List, ◌++◌, length, take, drop, slice_index, EachIndex}
use Rattle.bits.specs.Rows.{Row}

-- the place of the last word that is not 0
abbrev pub LastUsed : Row → Option ℕ → Type 0
LastUsed x r =
    MatchOption r (EachIndex x (λ t. slice_index x t ≡ 0))
    (λ k. (k < length x) × (slice_index x k ≢ 0) × ((t : ℕ) → k < t → t < length x → slice_index x t ≡ 0))

-- f at each of the first n rows of w words; the words after them stay
unfoldable pub over : ℕ → ℕ → (Row → Row) → List ℕ → List ℕ
over w zero f l = l
over w (suc n) f l = f (take w l) ++ over w n f (drop w l)
