-- The code sheet: N records of one size, record i for u_i, and the rules that they state.
--     Rule             free, or frozen with a constant and the positions that it names
-- A record alone: `b k` is its byte k, `m` the positions that it names.
--     named_by b j      it names position j
--     rule_by b m       what it says of its position
--     fine_by b m i     as record i, it breaks no rule for records
-- A sheet `s` of records as they are today.
--     byte s i k       byte k of record i
--     names s i j      record i names position j
--     mask s i         the positions that record i names, by flags from position 0 on
--     rule_at, rules    what the records say of each position
--     fine s i         record i breaks no rule for records
--     bad_record n s    the place of the first record that breaks any rule, or N
-- A sheet in any layout `L`: the same (proofs/Layouts: at today's layout they are the above).
--     byte_in, names_in, mask_in, rule_in, rules_in, fine_in, bad_in
-- Rules.
--     frees            K, the number of free positions
--     early            a frozen record names only positions below its own
use Rattle.std.specs.Prelude.{ℕ, suc, ◌+◌, ◌*◌, ◌/◌, ◌%◌, ◌^◌, Bool, true, ◌&&◌, not, List, [], ◌∷◌, drop, get_or, eqb, leb}
use Rattle.bits.specs.Vectors.{pick, tab, first_place, zeros}
use Rattle.bits.specs.Words.{bit_at}
use Rattle.meaning.specs.Limits.{Layout, mask_bytes, record_bytes}

-- ---- a record alone

-- free, or frozen with a constant and the positions that it names
pub data Rule : Type 0 where
  free : Rule
  frozen : Bool → List Bool → Rule

-- position j is named by bit j mod 8 (bit 0 lowest) of byte 4 + j div 8
abbrev pub named_by : (ℕ → ℕ) → ℕ → Bool
named_by b j = eqb (bit_at (b (4 + j / 8)) (j % 8)) 1

-- byte 0: 0 free, 1 frozen; byte 1: the constant
abbrev pub rule_by : (ℕ → ℕ) → List Bool → Rule
rule_by b m = pick (eqb (b 0) 0) free (frozen (eqb (b 1) 1) m)

-- byte 0 and byte 1 are 0 or 1, bytes 2 and 3 are zero; a free record has constant 0 and an empty mask; a frozen record i may name only positions below i
abbrev pub fine_by : (ℕ → ℕ) → List Bool → ℕ → Bool
fine_by b m i =
    leb (b 0) 1 && leb (b 1) 1 && eqb (b 2) 0 && eqb (b 3) 0
    && pick (eqb (b 0) 0) (eqb (b 1) 0 && zeros m) (zeros (drop i m))

-- ---- a sheet as it is today

-- byte k of record i
abbrev pub byte : List ℕ → ℕ → ℕ → ℕ
byte s i k = get_or s (i * record_bytes + k) 0

unfoldable pub names : List ℕ → ℕ → ℕ → Bool
names s i j = named_by (byte s i) j

unfoldable pub mask : List ℕ → ℕ → List Bool
mask s i = tab (8 * mask_bytes) (names s i)

unfoldable pub rule_at : List ℕ → ℕ → Rule
rule_at s i = rule_by (byte s i) (mask s i)

unfoldable pub rules : ℕ → List ℕ → List Rule
rules n s = tab (2 ^ n) (rule_at s)

unfoldable pub fine : List ℕ → ℕ → Bool
fine s i = fine_by (byte s i) (mask s i) i

-- the place of the first record that breaks any rule, or N where none does
unfoldable pub bad_record : ℕ → List ℕ → ℕ
bad_record n s = first_place not (tab (2 ^ n) (fine s))

-- ---- a sheet in any layout

abbrev pub byte_in : Layout → List ℕ → ℕ → ℕ → ℕ
byte_in L s i k = get_or s (i * L.bytes + k) 0

unfoldable pub names_in : Layout → List ℕ → ℕ → ℕ → Bool
names_in L s i j = named_by (byte_in L s i) j

unfoldable pub mask_in : Layout → List ℕ → ℕ → List Bool
mask_in L s i = tab (8 * L.mask) (names_in L s i)

unfoldable pub rule_in : Layout → List ℕ → ℕ → Rule
rule_in L s i = rule_by (byte_in L s i) (mask_in L s i)

unfoldable pub rules_in : Layout → ℕ → List ℕ → List Rule
rules_in L n s = tab (2 ^ n) (rule_in L s)

unfoldable pub fine_in : Layout → List ℕ → ℕ → Bool
fine_in L s i = fine_by (byte_in L s i) (mask_in L s i) i

unfoldable pub bad_in : Layout → ℕ → List ℕ → ℕ
bad_in L n s = first_place not (tab (2 ^ n) (fine_in L s))

-- ---- rules

-- K, the number of free positions
abbrev pub frees : List Rule → ℕ
frees [] = 0
frees (free ∷ ks) = suc (frees ks)
frees (frozen c m ∷ ks) = frees ks

-- of the rules from position i on: a frozen one names only positions below its own
abbrev pub early : ℕ → List Rule → Bool
early i [] = true
early i (free ∷ ks) = early (suc i) ks
early i (frozen c m ∷ ks) = zeros (drop i m) && early (suc i) ks
