-- What is known once nothing is refused.
--     AreBits    the bytes are 0 or 1
--     Placeable  a sheet of `size` records within a mask, and a bit for each free position
--     Encodable    a good sheet with K free positions, and a payload of K - r bits
--     Legible    a good sheet for a word with nothing erased
--     Extracted  what is left in the output: the payload of a codeword, or nothing new
--     Whole      a good sheet for a vector of bits, with K places for its free bits
use Rattle.std.specs.Prelude.{◌≡◌, ◌⊎◌, ℕ, ◌+◌, ◌*◌, ◌^◌, ◌≤◌, Bool, true, List, ◌++◌, map, length, take, drop}
use Rattle.bits.specs.Vectors.{bit, pick, tab}
use Rattle.meaning.specs.Limits.{largest_n, mask_bytes, record_bytes}
use Rattle.meaning.specs.Sheet.{rule_at, rules, frees, early}
use Rattle.meaning.specs.Transform.{polar}
use Rattle.meaning.specs.Check.{free_bits, keeps}
use Rattle.meaning.specs.Answers.{is_one}

abbrev pub AreBits : List ℕ → Type 0
AreBits l = map bit (map is_one l) ≡ l

pub record Placeable (s : List ℕ) (size : ℕ) (f : List ℕ) : Type 0 where
  pub long : length s ≡ size * record_bytes
  pub within : size ≤ 8 * mask_bytes
  pub bits : AreBits f
  pub count : length f ≡ frees (tab size (rule_at s))

pub record Encodable (n : ℕ) (s : List ℕ) (r : ℕ) (p : List ℕ) (k : ℕ) : Type 0 where
  pub small : n ≤ largest_n
  pub long : length s ≡ 2 ^ n * record_bytes
  pub check : (r ≡ 0) ⊎ ((r ≡ 6) ⊎ (r ≡ 11))
  pub count : k ≡ frees (rules n s)
  pub bits : AreBits p
  pub sum : k ≡ length p + r

pub record Whole (s : List ℕ) (r : ℕ) (u : List ℕ) (k : ℕ) : Type 0 where
  pub long : length s ≡ length u * record_bytes
  pub within : length u ≤ 8 * mask_bytes
  pub ordered : early 0 (tab (length u) (rule_at s)) ≡ true
  pub check : (r ≡ 0) ⊎ ((r ≡ 6) ⊎ (r ≡ 11))
  pub bits : AreBits u
  pub count : k ≡ frees (tab (length u) (rule_at s))

pub record Legible (n : ℕ) (s : List ℕ) (r : ℕ) (w : List ℕ) (k : ℕ) : Type 0 where
  pub bits : AreBits w
  pub long : length w ≡ 2 ^ n
  pub behind : (u : List ℕ) → u ≡ map bit (polar n (map is_one w)) → Whole s r u k

-- b tells whether the word is a codeword
pub record Extracted (n : ℕ) (s : List ℕ) (r : ℕ) (w : List ℕ) (m : ℕ) (out out' : List ℕ) (b : Bool) : Type 0 where
  pub tells : b ≡ keeps (rules n s) r (polar n (map is_one w))
  pub leaves : out' ≡ pick b (map bit (take m (free_bits (rules n s) (polar n (map is_one w)))) ++ drop m out) out
