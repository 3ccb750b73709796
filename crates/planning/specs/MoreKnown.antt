-- What the answer to a word keeps, and what it gains, where some erased symbols are filled in.
-- An answer is given by its five numbers v and by its bytes b, of which the first 3N are the strips: settled, first, last.
--     code_of, g_of, m_of, d_of     the numbers by name
--     formed v                  not refused, or for no reason but 18
--     strip n i b               strip i
--     NotLater n x y            the codeword x is y, or its u comes before that of y
--     OpenFetched n w w' b      a place that was not settled has been read
--     MoreKnown n w w' v b v' b'     v and b answer the word w, v' and b' the word w' with more read
use Rattle.std.specs.Prelude.{◌≡◌, ◌⊎◌, ℕ, ◌+◌, ◌*◌, ◌^◌, ◌≤◌, ◌<◌, Bool, ◌||◌, List, map, take, drop, get_or, eqb, leb}
use Rattle.bits.specs.Vectors.{Before}
use Rattle.meaning.specs.Transform.{polar}
use Rattle.meaning.specs.Answers.{is_one}
use Rattle.planning.specs.Filled.{fetched}

abbrev pub code_of : List ℕ → ℕ
code_of v = get_or v 0 0

abbrev pub g_of : List ℕ → ℕ
g_of v = get_or v 2 0

abbrev pub m_of : List ℕ → ℕ
m_of v = get_or v 3 0

abbrev pub d_of : List ℕ → ℕ
d_of v = get_or v 4 0

-- not refused, or for no reason but 18
abbrev pub formed : List ℕ → Bool
formed v = leb (code_of v) 2 || eqb (code_of v) 18

-- 0 is settled, 1 is first, 2 is last
abbrev pub strip : ℕ → ℕ → List ℕ → List ℕ
strip n i b = take (2 ^ n) (drop (i * 2 ^ n) b)

abbrev pub NotLater : ℕ → List ℕ → List ℕ → Type 0
NotLater n x y = (x ≡ y) ⊎ Before (polar n (map is_one x)) (polar n (map is_one y))

-- place j was erased and not settled, and has been read
abbrev pub OpenFetched : ℕ → List ℕ → List ℕ → List ℕ → Type 0
OpenFetched n w w' b = (j : ℕ) × (j < 2 ^ n) × (get_or w j 0 ≡ 2) × (get_or w' j 0 < 2) × (get_or b j 0 ≡ 2)

pub record MoreKnown (n : ℕ) (w w' v b v' b' : List ℕ) : Type 0 where
  -- under the ceiling stays under it, with g no larger; each symbol lowers g by one at most
  pub stays_under : (code_of v ≡ 18 → ⊥) → code_of v' ≡ 18 → ⊥
  pub unknowns : g_of v' ≤ g_of v
  pub unknowns_each : g_of v ≤ g_of v' + fetched w w'
  -- m does not fall, and m - g rises by as many as were filled in
  pub equations : (code_of v ≡ 18 → ⊥) → (m_of v ≤ m_of v') × (m_of v' + g_of v ≡ m_of v + g_of v' + fetched w w')
  -- inconsistent stays inconsistent
  pub stays_inconsistent : code_of v ≡ 2 → code_of v' ≡ 2
  -- if neither is refused or inconsistent, d does not grow, and each symbol lowers it by one at most
  pub dimension : code_of v ≤ 1 → code_of v' ≤ 1 → d_of v' ≤ d_of v
  pub dimension_each : code_of v ≤ 1 → code_of v' ≤ 1 → d_of v ≤ d_of v' + fetched w w'
  -- every settled place keeps its value, and first and last stay or move towards each other
  pub stays_settled : code_of v ≤ 1 → code_of v' ≤ 1 → (j : ℕ) → j < 2 ^ n → (get_or b j 0 ≡ 2 → ⊥) → get_or b' j 0 ≡ get_or b j 0
  pub narrows : code_of v ≤ 1 → code_of v' ≤ 1 → NotLater n (strip n 1 b) (strip n 1 b') × NotLater n (strip n 2 b') (strip n 2 b)
  -- d falls only by reading a place that was not settled, and so does ambiguous become unique
  pub lower_by_fetching : code_of v ≤ 1 → code_of v' ≤ 1 → d_of v' < d_of v → OpenFetched n w w' b
  pub unique_by_fetching : code_of v ≡ 1 → code_of v' ≡ 0 → OpenFetched n w w' b
  -- a settled place that is read otherwise makes the word inconsistent
  pub contradicted : code_of v ≤ 1 → (j : ℕ) → j < 2 ^ n → (get_or b j 0 ≡ 2 → ⊥) → get_or w' j 0 < 2 → (get_or w' j 0 ≡ get_or b j 0 → ⊥) → code_of v' ≡ 2
  -- settled places that are read as they were settled change neither code, d nor strips
  pub nothing-new : code_of v ≤ 1 → ((j : ℕ) → j < 2 ^ n → get_or w j 0 ≡ 2 → get_or w' j 0 < 2 → get_or w' j 0 ≡ get_or b j 0)
      → (code_of v' ≡ code_of v) × (d_of v' ≡ d_of v) × (take (3 * 2 ^ n) b' ≡ take (3 * 2 ^ n) b)
  -- unique stays the same codeword, or becomes inconsistent
  pub stays_unique : code_of v ≡ 0 → (code_of v' ≡ 2) ⊎ ((code_of v' ≡ 0) × (take (3 * 2 ^ n) b' ≡ take (3 * 2 ^ n) b))
