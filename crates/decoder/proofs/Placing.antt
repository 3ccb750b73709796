-- A word's symbols put into rows, and what is read off them.
--     put_constant                           one symbol
--     place-next                             the loop: the rows that are placed
--     zero-next                              and those that are not yet
--     placed-bare, placed-candidates         the rows have no coefficient, and the word that their constants make has the word's candidates
use mathlib.Core.Path.{◌≡◌, refl, sym, ap, ap₂, ◌∙◌}
use mathlib.Core.Logic.{◌⊎◌, inl, inr}
use Prim.Native.Nat.{ℕ, zero, suc, ◌+◌, ◌*◌, ◌≤◌, ◌<◌}
use native.Mathlib.Omega.{arith}
use native.Mathlib.Nat.{eq-or-lt_of_le}
use mathlib.Core.Bool.{Bool, true, false, ◌&&◌}
use mathlib.Core.List.{List, [], ◌∷◌, ◌++◌, append_assoc}
use lib.ListN.{length, take, drop, set, get_or, replicate, length-replicate, length-set, take-append-drop}
use lib.Seq.{paste, take-take, drop-drop}
use lib.Dec.{eqb}
use mir.Val.{bool_byte}
use Rattle.std.proofs.lemmas.List.{get_or-replicate, set-get_or}
use Rattle.bits.specs.Vectors.{bit, filter, pick}
use Rattle.bits.specs.Rows.{Row, part, row, nought_row}
use Rattle.bits.proofs.RowLaws.{row_room}
use Rattle.bits.proofs.RowsWritten.{paste-set, row_same, row_other}
use Rattle.gf2.specs.Solve.{lead}
use Rattle.meaning.specs.Sheet.{Rule}
use Rattle.meaning.specs.Codewords.{fits, agrees, codewords, candidates}
use Rattle.model.specs.RowValues.{unit_row}
use Rattle.verdict.specs.OffRows.{constant}
use Rattle.verdict.proofs.OneBit.{has-nought, lead-within}
use Rattle.verdict.proofs.Lanes.{lane_sym, lane_word, constant-unit, unit-bare}
use Rattle.decoder.specs.Placing.{symbol_row, PutSymbol, Placed, Unplaced}

-- ---- one symbol

-- a part put where it stands
paste_own : (v : List ℕ) (a w : ℕ) → paste v a (part w a v) w ≡ v
paste_own v a w =
    let t : take w (part w a v) ≡ part w a v = take-take w w (drop a v) (omega arith) in
    rw (t, append_assoc (take a v) (part w a v) (drop (a + w) v)) (ap (λ (l : List ℕ). take a v ++ (part w a v ++ l)) (sym (drop-drop w a v)) ∙ ap (λ (l : List ℕ). take a v ++ l) (take-append-drop w (drop a v)) ∙ take-append-drop a v)

-- row j, which is 0
module _ (c w j s n : ℕ) (v : List ℕ) (lv : length v ≡ n * w) (hj : j < n) (e : row w v j ≡ nought_row w) where
  room : j * w + w ≤ length v
  room = row_room w n v lv j hj

  clear : v ≡ paste v (j * w) (nought_row w) w
  clear = sym (ap (λ (x : Row). paste v (j * w) x w) (sym e) ∙ paste_own v (j * w) w)

  -- its constant is put in word c
  pub put_constant : c < w → (x : ℕ) → x ≡ bool_byte (eqb s 1) → PutSymbol c w j s v (set v (j * w + c) x)
  put_constant cw x q =
      let lx : length (set (nought_row w) c x) ≡ w = length-set (replicate w 0) c x ∙ length-replicate w 0 in
      let ev : set v (j * w + c) x ≡ paste v (j * w) (set (nought_row w) c x) w =
      ap (λ (l : List ℕ). set l (j * w + c) x) clear ∙ paste-set v (nought_row w) (j * w) w room (length-replicate w 0) c x cw in
      record { new = row_same w n v lv j (set (nought_row w) c x) _ hj lx ev ∙ go (eqb s 1) x q; old = row_other w n v lv j (set (nought_row w) c x) _ hj lx ev }
    where
      go : (b : Bool) (y : ℕ) → y ≡ bool_byte b → set (nought_row w) c y ≡ pick b (unit_row c w) (nought_row w)
      go true y k = ap (set (nought_row w) c) k
      go false y k = ap (set (nought_row w) c) (k ∙ sym (get_or-replicate w c 0 0 cw)) ∙ set-get_or (nought_row w) c 0

-- ---- the loop

pub zero-next : {c w j s n : ℕ} {v v' : List ℕ} → Unplaced w j n v → PutSymbol c w j s v v' → Unplaced w (j + 1) n v'
zero-next u o = record { zeros = λ i p q. o.old i (λ z. omega arith) ∙ u.zeros i (omega arith) q }

other_default : (l : List ℕ) (j : ℕ) → j < length l → get_or l j 0 ≡ get_or l j 2
other_default [] j p = absurd (omega arith)
other_default (a ∷ l) zero p = refl
other_default (a ∷ l) (suc j) p = other_default l j (omega arith)

pub place-next : {c w j : ℕ} {word v v' : List ℕ} → j < length word → Placed c w j word v → PutSymbol c w j (get_or word j 0) v v' → Placed c w (j + 1) word v'
place-next {c} {w} {j} {word} {v} {v'} h u o = record { symbols = λ i p. let q : i ≤ j = omega arith in go i (eq-or-lt_of_le q) }
  where
    go : (i : ℕ) → (i ≡ j) ⊎ (i < j) → row w v' i ≡ symbol_row c w (get_or word i 2)
    go i (inl q) = rw q (o.new ∙ ap (symbol_row c w) (other_default word j h))
    go i (inr p) = o.old i (λ z. omega arith) ∙ u.symbols i p

-- ---- what is read off the rows

module _ (c w : ℕ) (hc : c < w) where
  pub placed-bare : (word v : List ℕ) → Placed c w (length word) word v → (j : ℕ) → j < length word → lead c (row w v j) ≡ 0
  placed-bare word v P j h = ap (lead c) (P.symbols j h) ∙ go (eqb (get_or word j 2) 1)
    where
      go : (b : Bool) → lead c (pick b (unit_row c w) (nought_row w)) ≡ 0
      go true = unit-bare c w hc
      go false = let l = lead-within c 0 (nought_row w) (λ t p q. has-nought w t) in omega arith

  same-fits : (s : ℕ) (x : Row) (b : Bool) → x ≡ symbol_row c w s → fits (lane_sym (constant c) s x) b ≡ fits s b
  same-fits zero x b q = ap (λ (t : Bool). fits (bit t) b) (ap (constant c) q ∙ has-nought w (64 * c))
  same-fits (suc zero) x b q = ap (λ (t : Bool). fits (bit t) b) (ap (constant c) q ∙ constant-unit c w hc)
  same-fits (suc (suc s)) x b q = refl

  same-agrees : (d : List ℕ) (f : ℕ → Row) → ((j : ℕ) → j < length d → f j ≡ symbol_row c w (get_or d j 2)) → (x : List Bool) → agrees (lane_word (constant c) d f) x ≡ agrees d x
  same-agrees [] f k x = refl
  same-agrees (s ∷ d) f k [] = refl
  same-agrees (s ∷ d) f k (b ∷ x) = ap₂ ◌&&◌ (same-fits s (f 0) b (k 0 (omega arith))) (same-agrees d (λ (j : ℕ). f (suc j)) (λ j p. k (suc j) (omega arith)) x)

  pub placed-candidates : (n : ℕ) (ks : List Rule) (r : ℕ) (word v : List ℕ) → Placed c w (length word) word v
      → candidates n ks r (lane_word (constant c) word (row w v)) ≡ candidates n ks r word
  unfolding candidates
  placed-candidates n ks r word v P = λ i. filter (λ (x : List Bool). same-agrees word (row w v) P.symbols x i) (codewords n ks r)
