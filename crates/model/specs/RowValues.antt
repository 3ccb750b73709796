-- Rows of w words as values of the decoder: c words of coefficients, then the constant in bit 0 of word c, then what rides along.
--     unit_row, unknown_row                1, and unknown k (0 is `noughtRow` of bits)
--     row_values c w                      what the decoder computes with
--     held, placed                       a symbol whose row, where it is known, is at hand; the symbols of a word with the row of symbol j in place j
--     rows_out, rows_system                the decoder on such symbols; all the equations that it leaves, those of the check behind the others
use Rattle.std.specs.Prelude.{ℕ, zero, suc, ◌/◌, ◌%◌, ◌^◌, List, ◌++◌, length, set, get_or}
use Rattle.std.proofs.Math.Option.{Option, none, some}
use Rattle.bits.specs.Vectors.{tab}
use Rattle.bits.specs.Rows.{Row, ◌⊻◌, nought_row}
use Rattle.meaning.specs.Sheet.{Rule}
use Rattle.model.specs.Model.{Values, Out, start, decode, checks}

-- the constant
abbrev pub unit_row : ℕ → ℕ → Row
unit_row c w = set (nought_row w) c 1

-- unknown k is bit k mod 64 of word k div 64
abbrev pub unknown_row : ℕ → ℕ → Row
unknown_row w k = set (nought_row w) (k / 64) (2 ^ (k % 64))

abbrev pub row_values : ℕ → ℕ → Values Row
row_values c w = record { plus = ◌⊻◌; nought = nought_row w; unit = unit_row c w; unknown = unknown_row w }

-- ---- symbols that have rows

-- known where it is 0 or 1
abbrev pub held : ℕ → Row → Option Row
held zero x = some x
held (suc zero) x = some x
held (suc (suc s)) x = none

abbrev pub placed : List ℕ → (ℕ → Row) → List (Option Row)
placed word f = tab (length word) (λ (j : ℕ). held (get_or word j 2) (f j))

module _ (c w : ℕ) (rule : ℕ → Rule) (n : ℕ) (word : List ℕ) (f : ℕ → Row) where
  abbrev pub rows_out : Out Row
  rows_out = decode (row_values c w) rule n (placed word f) start

  abbrev pub rows_system : ℕ → List Row
  rows_system r = rows_out.after.eqs ++ checks (row_values c w) r (tab (2 ^ n) rule) rows_out.after.us
