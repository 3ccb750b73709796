-- The search for the n of a sheet, from its length, in any layout.
--     size-most       the search ends one past the largest n, at the latest
--     size-right      an n that is found is that of the sheet's length
--     Left, size-start, size-found, size-next, size_none     what is left to search: all, n is it, one less, nothing
use mathlib.Core.Path.{◌≡◌, sym, ap, ◌∙◌}
use Prim.Native.Nat.{ℕ, suc, ◌+◌, ◌*◌, ◌^◌, ◌≤◌, ◌<◌}
use native.Mathlib.Omega.{arith}
use native.Mathlib.Numerals.{add-one}
use native.Mathlib.Nat.{zero-add}
use mathlib.Core.Bool.{Bool}
use mathlib.Core.List.{List}
use lib.ListN.{length, drop, get_or}
use lib.Dec.{eqb}
use borrow.Author.Tests.{eqb-true, eq-eqb, ne_eqb}
use Rattle.bits.specs.Vectors.{tab, first_place}
use Rattle.bits.proofs.Tests.{tab-at, length-tab, place_passes, place_found, place-next, place_end, place_le}
use Rattle.meaning.specs.Limits.{Layout}
use Rattle.meaning.specs.Stream.{n_in}

module _ (L : Layout) (s : List ℕ) where
  abbrev has : ℕ → Bool
  has n = eqb (length s) (2 ^ n * L.bytes)

  abbrev sizes : List ℕ
  sizes = tab (suc L.largest) (λ (n : ℕ). n)

  pub size-most : n_in L s ≤ suc L.largest
  size-most = omega (arith, place_le has sizes, length-tab (suc L.largest) (λ (n : ℕ). n))

  pub size-right : n_in L s ≤ L.largest → length s ≡ 2 ^ n_in L s * L.bytes
  size-right h =
      let l : n_in L s < length sizes = omega (arith, length-tab (suc L.largest) (λ (n : ℕ). n)) in
      let at : get_or sizes (n_in L s) 0 ≡ n_in L s = tab-at (suc L.largest) (λ (n : ℕ). n) (n_in L s) 0 (omega arith) in
      eqb-true (length s) _ (ap has (sym at) ∙ place_passes has sizes 0 l)

  -- what is left to search at n
  abbrev pub Left : ℕ → Type 0
  Left n = n + first_place has (drop n sizes) ≡ n_in L s

  pub size-start : Left 0
  size-start = zero-add (first_place has sizes)

  module _ (n : ℕ) (l : Left n) where
    at : n ≤ L.largest → get_or sizes n 0 ≡ n
    at h = tab-at (suc L.largest) (λ (i : ℕ). i) n 0 (omega arith)

    within : n ≤ L.largest → n < length sizes
    within h = omega (arith, length-tab (suc L.largest) (λ (i : ℕ). i))

    pub size-found : n ≤ L.largest → length s ≡ 2 ^ n * L.bytes → n ≡ n_in L s
    size-found h e = sym (place_found has sizes n 0 (within h) (ap has (at h) ∙ eq-eqb (length s) (2 ^ n * L.bytes) e)) ∙ l

    pub size-next : n ≤ L.largest → (length s ≡ 2 ^ n * L.bytes → ⊥) → Left (n + 1)
    size-next h e = rw add-one (sym (place-next has sizes n 0 (within h) (ap has (at h) ∙ ne_eqb (length s) (2 ^ n * L.bytes) e)) ∙ l)

    pub size_none : L.largest < n → n ≡ n_in L s
    size_none h = sym (place_end has sizes n (omega (arith, length-tab (suc L.largest) (λ (i : ℕ). i)))) ∙ l
