-- Rows made of records of 64 bytes: eight words each, the first byte lowest.
--     PutLanes, Placed         the eight words of a record put into a list; those of N records, one to a row of w words, behind c + 1 words of 0
--     lost_sym, lost_word        what is lost as a word: 2 where it is, else 0
use Rattle.std.specs.Prelude.{◌≡◌, ◌⊎◌, ℕ, ◌+◌, ◌*◌, ◌≤◌, ◌<◌, List, map, get_or, eqb}
use Rattle.bits.specs.Vectors.{pick}
use Rattle.bits.specs.Bytes.{Holds}

pub record PutLanes (to : ℕ) (bytes v v' : List ℕ) : Type 0 where
  pub new : (k : ℕ) → k < 8 → Holds 8 bytes (8 * k) (get_or v' (to + k) 0)
  pub old : (p : ℕ) → (p < to) ⊎ (to + 8 ≤ p) → get_or v' p 0 ≡ get_or v p 0

pub record Placed (c w n : ℕ) (strip v : List ℕ) : Type 0 where
  pub bare : (i q : ℕ) → i < n → q < c + 1 → get_or v (i * w + q) 0 ≡ 0
  pub lanes : (i k : ℕ) → i < n → k < 8 → Holds 8 strip (i * 64 + 8 * k) (get_or v (i * w + (c + 1 + k)) 0)

abbrev pub lost_sym : ℕ → ℕ
lost_sym a = pick (eqb a 0) 0 2

abbrev pub lost_word : List ℕ → List ℕ
lost_word lost = map lost_sym lost
