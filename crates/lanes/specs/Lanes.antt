-- The 512 lanes of a row: one for each bit of a record of 64 bytes. A row has c words of coefficients, the constant that all lanes have in common in bit 0 of
-- word c, then eight words with a bit for each lane: what the constant of lane t is beyond the common one.
--     up_to n                        0, 1, .. n - 1
--     packed n f                    the number whose n bits are f 0, f 1, .., the lowest first
--     lane_constant c t x            the constant of lane t
--     first_unsound c e              the first lane in which an equation with no coefficient has the constant 1; 512 where there is none
--     row_byte, row_record, row_mark   byte i of the record that a row spells; the record, zeros where a coefficient is left; its mark, 1 where one is
--     row_repaired c rs              the records end to end, then their marks
--     row_reply c g m s out          the reply, from the system s that the solver leaves
--     fits                          numbers, lengths of the two lists of words and room of the output fit together
--     concluding                    what `conclude` answers and leaves; where they do not fit, BadShape
use Rattle.std.specs.Prelude.{ℕ, zero, suc, ◌+◌, ◌-◌, ◌*◌, ◌/◌, ◌%◌, Bool, not, ◌&&◌, length, replicate, eqb, leb, ltb}
use mathlib.Core.List.{List, ◌++◌, map, flatten}
use Rattle.bits.specs.Vectors.{◌⊕◌, bit, pick, tab, first_place}
use Rattle.bits.specs.Rows.{Row, has, rows_of}
use Rattle.gf2.specs.Solve.{Sys, sys}
use Rattle.gf2.specs.System.{led, consistent}
use Rattle.meaning.specs.Answers.{Reply, leaving, writing}
use Rattle.meaning.specs.declared.Answer.TheVariants.{Unique, Ambiguous, LaneInconsistent, BadShape}

abbrev pub up_to : ℕ → List ℕ
up_to n = tab n (λ (i : ℕ). i)

abbrev pub packed : ℕ → (ℕ → ℕ) → ℕ
packed zero f = 0
packed (suc n) f = f 0 + packed n (λ (i : ℕ). f (suc i)) * 2

-- ---- a row

abbrev pub lane_constant : ℕ → ℕ → Row → Bool
lane_constant c t x = has (64 * c) x ⊕ has (64 * (c + 1) + t) x

unfoldable pub first_unsound : ℕ → List Row → ℕ
first_unsound c e = first_place (λ (t : ℕ). not (consistent c (lane_constant c t) e)) (up_to 512)

unfoldable pub row_byte : ℕ → Row → ℕ → ℕ
row_byte c x i = packed 8 (λ (b : ℕ). bit (lane_constant c (8 * i + b) x))

abbrev pub row_record : ℕ → Row → List ℕ
row_record c x = pick (led c x) (replicate 64 0) (tab 64 (row_byte c x))

abbrev pub row_mark : ℕ → Row → ℕ
row_mark c x = bit (led c x)

-- ---- the reply

unfoldable pub row_repaired : ℕ → List Row → List ℕ
row_repaired c rs = flatten (map (row_record c) rs) ++ map (row_mark c) rs

-- g unknowns, m equations; g - rank of the unknowns are free
unfoldable pub row_reply : ℕ → ℕ → ℕ → Sys → List ℕ → Reply
row_reply c g m s out =
    let d = g - s.rank in
    let t = first_unsound c s.eqs in
    pick (ltb t 512) (leaving out (LaneInconsistent t g m)) (writing (row_repaired c s.rest) out (pick (eqb d 0) (Unique g m) (Ambiguous g m d)))

-- nine words behind the coefficients, no more pivots than unknowns, whole rows, and 65 bytes for each row of a record
unfoldable pub fits : ℕ → ℕ → ℕ → ℕ → ℕ → ℕ → ℕ → Bool
fits c w g rank eqs vals room = leb (c + 9) w && (leb rank g && (eqb (eqs % w) 0 && (eqb (vals % w) 0 && leb (65 * (vals / w)) room)))

unfoldable pub concluding : ℕ → ℕ → ℕ → ℕ → ℕ → List ℕ → List ℕ → List ℕ → Reply
concluding c w g m rank eqs vals out =
    pick (fits c w g rank (length eqs) (length vals) (length out))
    (row_reply c g m (sys (rows_of w eqs) (rows_of w vals) rank) out)
    (leaving out BadShape)
