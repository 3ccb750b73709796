-- What is read off the list of candidates.
--     settled m cs      the value where all candidates have it, else 2; at the first m places
--     first, last       the first and the last candidate, as symbols
--     strips n cs       the output of decoding: settled, first, last
--     dimension cs      d, where there are 2 ^ d candidates
use Rattle.std.specs.Prelude.{ℕ, zero, suc, ◌/◌, ◌^◌, Bool, true, false, not, List, [], ◌∷◌, ◌++◌, map, length, get_or, leb}
use Rattle.bits.specs.Vectors.{bit, pick, all, tab}

-- 1 where all hold 1, 0 where all hold 0, else 2
abbrev pub common : Bool → Bool → ℕ
common true z = 1
common false true = 0
common false false = 2

abbrev pub settled_at : List (List Bool) → ℕ → ℕ
settled_at cs j = common (all (λ (x : List Bool). get_or x j false) cs) (all (λ (x : List Bool). not (get_or x j false)) cs)

-- the settled strip
unfoldable pub settled : ℕ → List (List Bool) → List ℕ
settled m cs = tab m (settled_at cs)

-- the first candidate
abbrev pub first : List (List Bool) → List ℕ
first [] = []
first (x ∷ cs) = map bit x

-- the last candidate
abbrev pub last : List (List Bool) → List ℕ
last [] = []
last (x ∷ []) = map bit x
last (x ∷ y ∷ cs) = last (y ∷ cs)

-- 3N bytes: the settled strip, then the first agreeing codeword, then the last
unfoldable pub strips : ℕ → List (List Bool) → List ℕ
strips n cs = settled (2 ^ n) cs ++ first cs ++ last cs

-- how often k can be halved, at most f times, before it is 1
abbrev pub log2 : ℕ → ℕ → ℕ
log2 zero k = 0
log2 (suc f) k = pick (leb k 1) 0 (suc (log2 f (k / 2)))

-- d: there are 2 ^ d candidates
unfoldable pub dimension : List (List Bool) → ℕ
dimension cs = log2 (length cs) (length cs)
