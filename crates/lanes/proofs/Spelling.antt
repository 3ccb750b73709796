-- Bytes, records and marks.
--     packed_ext, packed-bits                          a number from its bits
--     byte_of                                          a byte of the constants of 64 lanes is the record's
--     SpeltUpTo, spell_next                            the bytes of a record
--     record_long                                      a record is 64 bytes
--     repaired-is                                      the records, then the marks
use mathlib.Core.Path.{◌≡◌, refl, sym, ap, ap₂, ◌∙◌}
use Prim.Native.Nat.{ℕ, zero, suc, ◌+◌, ◌-◌, ◌*◌, ◌/◌, ◌%◌, ◌^◌, ◌<◌}
use native.Mathlib.Omega.{arith}
use native.Mathlib.Nat.{div-one, pow-suc}
use mathlib.Core.Bool.{Bool, true, false}
use mathlib.Core.List.{List, ◌∷◌, ◌++◌, map, flatten, append_assoc}
use lib.ListN.{length, drop, replicate, length-replicate}
use Rattle.std.specs.Int.{w64, to_le_bytes, bytes_low_first}
use lib.Seq.{drop-drop}
use borrow.Rule.Slice.PartMut.{put_mid}
use Rattle.bits.specs.Vectors.{bit, pick, tab}
use Rattle.bits.specs.Words.{bit_at, has_bit}
use Rattle.bits.specs.Rows.{Row, row, rows_of}
use Rattle.bits.proofs.Tests.{length-tab, tab_append, tab_below}
use Rattle.bits.proofs.WordBits.{bit-has, bit-suc, shr_bit, low_bit}
use Rattle.bits.proofs.RowsWritten.{put-behind}
use Rattle.gf2.specs.System.{led}
use Rattle.verdict.proofs.Assembling.{map-tab}
use Rattle.lanes.specs.Lanes.{packed, lane_constant, row_byte, row_record, row_mark, row_repaired}
use Rattle.lanes.specs.Inner.{LaneWord, record_rows}

-- ---- numbers of bits

pub packed_ext : (n : ℕ) (f g : ℕ → ℕ) → ((b : ℕ) → b < n → f b ≡ g b) → packed n f ≡ packed n g
packed_ext zero f g h = refl
packed_ext (suc n) f g h = ap₂ (λ (x y : ℕ). x + y * 2) (h 0 (omega arith)) (packed_ext n (λ (i : ℕ). f (suc i)) (λ (i : ℕ). g (suc i)) (λ b k. h (suc b) (omega arith)))

pub packed-bits : (n y : ℕ) → y < 2 ^ n → packed n (bit_at y) ≡ y
packed-bits zero y h = omega arith
packed-bits (suc n) y h =
    let p = pow-suc 2 n in
    let e : y / 1 % 2 + y / 2 * 2 ≡ y = omega arith in
    ap (λ (x : ℕ). y / 1 % 2 + x * 2) (packed_ext n (λ (i : ℕ). bit_at y (suc i)) (bit_at (y / 2)) (λ b k. bit-suc y b) ∙ packed-bits n (y / 2) (omega arith)) ∙ e

-- a bit of the lowest byte
mod_bit : (y j : ℕ) → j < 8 → has_bit (y % 256) j ≡ has_bit y j
mod_bit y j k =
    let e : y / 256 * 256 + y % 256 ≡ y = omega arith in
    sym (low_bit 8 j (y % 256) (y / 256) (omega arith) k) ∙ ap (λ (z : ℕ). has_bit z j) e

pub byte_of : (c k : ℕ) (x : Row) (r : ℕ) → LaneWord c k x r → (i : ℕ) → i < 8 → r / 2 ^ (8 * i) % 256 ≡ row_byte c x (8 * k + i)
unfolding row_byte
byte_of c k x r w i h =
    let y : ℕ = r / 2 ^ (8 * i) in
    let s : y % 256 < 256 = omega arith in
    sym (packed-bits 8 (y % 256) s)
    ∙ packed_ext 8 (bit_at (y % 256)) (λ (b : ℕ). bit (lane_constant c (8 * (8 * k + i) + b) x))
    (λ b l.
    let e : 64 * k + (8 * i + b) ≡ 8 * (8 * k + i) + b = omega arith in
    sym (bit-has (y % 256) b) ∙ ap bit (mod_bit y b l ∙ shr_bit r (8 * i) b ∙ w.bits (8 * i + b) (omega arith) ∙ ap (λ (t : ℕ). lane_constant c t x) e))

-- the bytes of a word
bytes-are : (r : ℕ) → to_le_bytes w64 r ≡ tab 8 (λ (i : ℕ). r / 2 ^ (8 * i) % 256)
bytes-are r = ap (λ (b : ℕ). b % 256 ∷ bytes_low_first 1 7 r) (sym (div-one r))

-- ---- the bytes of a record

pub record SpeltUpTo (c : ℕ) (x : Row) (o l : List ℕ) (k : ℕ) : Type 0 where
  pub is : l ≡ tab (8 * k) (row_byte c x) ++ drop (8 * k) o

pub spell_next : {c : ℕ} {x : Row} {o l : List ℕ} {k : ℕ} → SpeltUpTo c x o l k → (r : ℕ) → LaneWord c k x r → (l' : List ℕ) → l' ≡ to_le_bytes w64 r → SpeltUpTo c x o (put_mid (8 * k) (8 * k + 8 - 8 * k) l l') (k + 1)
spell_next {c} {x} {o} {l} {k} u r w l' e =
    let f : ℕ → ℕ = row_byte c x in
    let m : 8 * k + 8 - 8 * k ≡ 8 = omega arith in
    let n : 8 * k + 8 ≡ 8 * (k + 1) = omega arith in
    let bytes : l' ≡ tab 8 (λ (i : ℕ). f (8 * k + i)) = e ∙ bytes-are r ∙ tab_below 8 (λ (i : ℕ). r / 2 ^ (8 * i) % 256) (λ (i : ℕ). f (8 * k + i)) (byte_of c k x r w) in
    record {
      is =
          ap₂ {C = List ℕ} (λ t j. put_mid (8 * k) j t l') u.is m
          ∙ put-behind (tab (8 * k) f) (drop (8 * k) o) l' (8 * k) 8 (length-tab (8 * k) f)
          ∙ ap₂ {C = List ℕ} (λ t s. tab (8 * k) f ++ (t ++ s)) bytes (drop-drop 8 (8 * k) o)
          ∙ sym (append_assoc (tab (8 * k) f) (tab 8 (λ (i : ℕ). f (8 * k + i))) (drop (8 * k + 8) o))
          ∙ ap (λ (t : List ℕ). t ++ drop (8 * k + 8) o) (sym (tab_append (8 * k) 8 f))
          ∙ ap (λ (j : ℕ). tab j f ++ drop j o) n;
    }

-- ---- a record

pub record_long : (c : ℕ) (x : Row) → length (row_record c x) ≡ 64
record_long c x = go (led c x)
  where
    go : (b : Bool) → length (pick b (replicate 64 0) (tab 64 (row_byte c x))) ≡ 64
    go true = length-replicate {A = ℕ} 64 0
    go false = length-tab 64 (row_byte c x)

-- ---- all of them

module _ (c w : ℕ) (vals : List ℕ) where
  abbrev N : ℕ
  N = length vals / w

  by_rows : {A : Type 0} (f : Row → A) → tab N (λ (j : ℕ). f (row w vals j)) ≡ map f (rows_of w vals)
  by_rows f = sym (map-tab f N (row w vals))

  -- the records, the marks, and the bytes behind
  pub repaired-is : (o r M : List ℕ) → r ≡ drop (N * 64) o → M ≡ map (row_mark c) (rows_of w vals)
      → record_rows c w vals N ++ (M ++ drop N r) ≡ row_repaired c (rows_of w vals) ++ drop (65 * N) o
  unfolding record_rows row_repaired
  repaired-is o r M er em =
      let e : N * 64 + N ≡ 65 * N = omega arith in
      let rest : drop N r ≡ drop (65 * N) o = ap (drop N) er ∙ drop-drop N (N * 64) o ∙ ap (λ (k : ℕ). drop k o) e in
      sym (append_assoc (record_rows c w vals N) M (drop N r))
      ∙ ap₂ {C = List ℕ} ◌++◌ (ap₂ {C = List ℕ} ◌++◌ (ap flatten (by_rows (row_record c))) em) rest
