-- Texts and numbers as bytes.
--     bytes t       a quoted text
--     decimal n     a number
--     wide w n      a number with spaces before it up to w places
--     Written       a buffer to which a text was written
use Rattle.std.specs.Prelude.{ℕ, zero, suc, ◌+◌, ◌-◌, ◌/◌, ◌%◌, ◌≡◌, List, [], ◌∷◌, ◌++◌, length, take, replicate, ltb}
use Prim.Native.Char.{code}
use Prim.Native.String.{String, [] as none, ◌∷◌ as ◌then◌}
use Rattle.bits.specs.Vectors.{pick}

abbrev pub bytes : String → List ℕ
bytes none = []
bytes (c then t) = code c ∷ bytes t

-- the last digit stands behind the number without it; f bounds the steps, and f = n is enough
abbrev pub decimal_in : ℕ → ℕ → List ℕ
decimal_in zero n = (48 + n % 10) ∷ []
decimal_in (suc f) n = pick (ltb n 10) [] (decimal_in f (n / 10)) ++ (48 + n % 10) ∷ []

unfoldable pub decimal : ℕ → List ℕ
decimal n = decimal_in n n

unfoldable pub wide : ℕ → ℕ → List ℕ
wide w n = replicate (w - length (decimal n)) 32 ++ decimal n

-- t stands behind the first `at` bytes, which stay, and ends at r; the buffer stays as long as it was
pub record Written (before after : List ℕ) (at r : ℕ) (t : List ℕ) : Type 0 where
  pub ends : r ≡ at + length t
  pub long : length after ≡ length before
  pub text : take r after ≡ take at before ++ t
