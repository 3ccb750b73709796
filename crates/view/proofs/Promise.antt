-- What the promise of `record` comes to, of any bytes r that it allows. `cartridge` promises the same of the strip that is lent.
--     record_determined            any two results that it allows are equal
--     Lacks                        the three cases of 02
--     lacks_empty, empty_lacks     r is empty in these and in no other
--     record_length, record_byte   in all others it is 64 bytes, and its byte i is byte 64 at + i of the strip
--     records-strip                the records of all cartridges, one after the other, are the strip
use mathlib.Core.Path.{◌≡◌, refl, sym, ap, ◌∙◌}
use mathlib.Core.Logic.{◌⊎◌, inl, inr, ⊎_elim}
use Prim.Native.Nat.{ℕ, ◌+◌, ◌*◌, ◌^◌, ◌≤◌, ◌<◌}
use native.Mathlib.Omega.{arith}
use mathlib.Core.Bool.{false}
use mathlib.Core.List.{List, [], flatten}
use lib.ListN.{length, get_or}
use lib.Seq.{take_all}
use denote.Ref.{Bor}
use Rattle.bits.specs.Vectors.{tab}
use Rattle.bits.specs.Rows.{row}
use Rattle.bits.proofs.Tests.{eq_or_ne, le_or_lt, tab_below}
use Rattle.bits.proofs.RowLaws.{length-row, get_or_part, flatten-rows}
use Rattle.meaning.specs.Limits.{largest_n}
use Rattle.view.specs.Viewing.{cartridge_bytes, has_record, record_of, place_of}
use Rattle.view.proofs.Cases.{none_large, none-behind, none_other, there}

-- of two views, the bytes and where they lie
pub record_determined : (strip : Bor (List ℕ)) (n at : ℕ) (r r' : Bor (List ℕ))
    → (r.now ≡ record_of strip.now n at) × (r.ref_ptr ≡ place_of strip n at) → (r'.now ≡ record_of strip.now n at) × (r'.ref_ptr ≡ place_of strip n at)
    → (r.now ≡ r'.now) × (r.ref_ptr ≡ r'.ref_ptr)
record_determined strip n at r r' p q = (p.0 ∙ sym q.0, p.1 ∙ sym q.1)

-- n above the largest, a position of N or more, or a strip that is not N records long
abbrev pub Lacks : List ℕ → ℕ → ℕ → Type 0
Lacks strip n at = (largest_n < n) ⊎ ((2 ^ n ≤ at) ⊎ (length strip ≡ 2 ^ n * cartridge_bytes → ⊥))

-- the record where there is one
record_there : (strip : List ℕ) (n at : ℕ) → n ≤ largest_n → at < 2 ^ n → length strip ≡ 2 ^ n * cartridge_bytes → record_of strip n at ≡ row cartridge_bytes strip at
unfolding record_of
record_there strip n at a b c = rw (there n at (length strip) a b c) refl

module _ (strip : List ℕ) (n at : ℕ) (r : List ℕ) (p : r ≡ record_of strip n at) where
  pub lacks_empty : Lacks strip n at → r ≡ []
  unfolding record_of
  lacks_empty h =
      let e : has_record n at (length strip) ≡ false = ⊎_elim (none_large n at (length strip)) (⊎_elim (none-behind n at (length strip)) (none_other n at (length strip))) h in
      p ∙ rw e refl

  module _ (a : n ≤ largest_n) (b : at < 2 ^ n) (c : length strip ≡ 2 ^ n * cartridge_bytes) where
    pub record_length : length r ≡ cartridge_bytes
    record_length = ap length (p ∙ record_there strip n at a b c) ∙ length-row cartridge_bytes (2 ^ n) strip c at b

    pub record_byte : (i : ℕ) → i < cartridge_bytes → get_or r i 0 ≡ get_or strip (at * cartridge_bytes + i) 0
    record_byte i h = ap (λ (l : List ℕ). get_or l i 0) (p ∙ record_there strip n at a b c) ∙ get_or_part strip (at * cartridge_bytes) cartridge_bytes i h

  pub empty_lacks : r ≡ [] → Lacks strip n at
  unfolding cartridge_bytes
  empty_lacks e = ⊎_elim small (λ a. inl a) (le_or_lt n largest_n)
    where
      long : n ≤ largest_n → at < 2 ^ n → Lacks strip n at
      long a b = ⊎_elim (λ c. absurd (omega (arith, record_length a b c, ap length e))) (λ c. inr (inr c)) (eq_or_ne (length strip) (2 ^ n * cartridge_bytes))

      small : n ≤ largest_n → Lacks strip n at
      small a = ⊎_elim (λ b. inr (inl b)) (long a) (le_or_lt (2 ^ n) at)

pub records-strip : (strip : List ℕ) (n : ℕ) → n ≤ largest_n → length strip ≡ 2 ^ n * cartridge_bytes → flatten (tab (2 ^ n) (record_of strip n)) ≡ strip
records-strip strip n a c =
    ap flatten (tab_below (2 ^ n) (record_of strip n) (row cartridge_bytes strip) (λ at b. record_there strip n at a b c))
    ∙ flatten-rows cartridge_bytes (2 ^ n) strip
    ∙ take_all (2 ^ n * cartridge_bytes) strip (omega arith)
