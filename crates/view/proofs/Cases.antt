-- Whether a strip has the record of a cartridge, and the view in either case.
--     none_large, none-behind, none_other     it has none: n above the largest, a position of N or more, another length
--     there                                   else it has one
--     view_none, view_there                   what a view without a record is, and one with a record
use mathlib.Core.Path.{◌≡◌, refl, ap}
use Prim.Native.Nat.{ℕ, ◌+◌, ◌-◌, ◌*◌, ◌^◌, ◌≤◌, ◌<◌}
use native.Mathlib.Omega.{arith}
use mathlib.Core.Bool.{Bool, true, false, ◌&&◌}
use mathlib.Core.List.{List, []}
use lib.ListN.{length, take, drop}
use lib.Dec.{eqb, leb, ltb}
use borrow.Author.Tests.{lt-ltb, le-ltb, le-leb, lt-leb, eq-eqb, ne_eqb}
use denote.Ref.{Bor}
use Rattle.bits.proofs.Tests.{and-false}
use Rattle.meaning.specs.Limits.{largest_n}
use Rattle.view.specs.Viewing.{cartridge_bytes, has_record, record_of, place_of}

module _ (n at len : ℕ) where
  pub none_large : largest_n < n → has_record n at len ≡ false
  unfolding has_record
  none_large h = rw (lt-leb n largest_n h) refl

  pub none-behind : 2 ^ n ≤ at → has_record n at len ≡ false
  unfolding has_record
  none-behind h = and-false (leb n largest_n) _ (ap (λ (b : Bool). b && eqb len (2 ^ n * cartridge_bytes)) (le-ltb at (2 ^ n) h))

  pub none_other : (len ≡ 2 ^ n * cartridge_bytes → ⊥) → has_record n at len ≡ false
  unfolding has_record
  none_other h = and-false (leb n largest_n) _ (and-false (ltb at (2 ^ n)) _ (ne_eqb len (2 ^ n * cartridge_bytes) h))

  pub there : n ≤ largest_n → at < 2 ^ n → len ≡ 2 ^ n * cartridge_bytes → has_record n at len ≡ true
  unfolding has_record
  there a b c = rw (le-leb n largest_n a, lt-ltb at (2 ^ n) b) (eq-eqb len (2 ^ n * cartridge_bytes) c)

module _ (strip : Bor (List ℕ)) (n at : ℕ) where
  pub view_none : has_record n at (length strip.now) ≡ false → ([] ≡ record_of strip.now n at) × (strip.ref_ptr ≡ place_of strip n at)
  unfolding record_of place_of
  view_none h = (rw h refl, rw h (ap {B = ℕ × ℕ} (λ (k : ℕ). (strip.ref_ptr.0, k)) (omega arith)))

  -- in the words of the code, k being where the record starts
  pub view_there : has_record n at (length strip.now) ≡ true → (k : ℕ) → k ≡ at * cartridge_bytes
      → (take (k + cartridge_bytes - k) (drop k strip.now) ≡ record_of strip.now n at) × (◌≡◌ {A = ℕ × ℕ} (strip.ref_ptr.0, k + strip.ref_ptr.1) (place_of strip n at))
  unfolding record_of place_of
  view_there h k e =
      let s : k + cartridge_bytes - k ≡ cartridge_bytes = omega arith in
      (rw (h, s, e) refl, rw h (ap {B = ℕ × ℕ} (λ (o : ℕ). (strip.ref_ptr.0, o)) (omega arith)))
