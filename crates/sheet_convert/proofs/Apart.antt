-- An old sheet is no new one: handed in directly it is refused as 11, in every call and in the stream.
--     sizes_apart      records of two sizes, with masks of whole words, make no sheets of the same length
--     never_both       no length is both an old sheet's and a new one's
--     check-old, encode_old, read_old, decode-old     11 in every call, the output as found
--     size-old, stream_old     in the stream, no n is found and the one record is that of 11
use mathlib.Core.Path.{◌≡◌, refl, sym, ap, ◌∙◌}
use mathlib.Core.Logic.{⊎_elim}
use Prim.Native.Nat.{ℕ, zero, suc, ◌+◌, ◌*◌, ◌/◌, ◌%◌, ◌^◌, ◌<◌}
use native.Mathlib.Omega.{arith}
use native.Mathlib.Nat.{add-mul, div-add-mod}
use mathlib.Core.Bool.{true}
use mathlib.Core.List.{List, [], ◌∷◌}
use lib.ListN.{length}
use lib.Dec.{ltb}
use borrow.Author.Tests.{ne_eqb, lt-ltb}
use Rattle.bits.proofs.Tests.{le_or_lt, or_true}
use Rattle.meaning.specs.Limits.{layout, largest_n, mask_bytes, record_bytes, old_mask_bytes, old_record_bytes}
use Rattle.meaning.specs.Answers.{bad_shape, sheet_refusals, encode_refusals, read_refusals, form_refusals, decode_refusals, leaving, checking, encoding, reading_back, decoding}
use Rattle.meaning.specs.Stream.{refused_record, n_of, records}
use Rattle.meaning.specs.declared.Answer.TheVariants.{BadShape}
use Rattle.meaning.proofs.Sizing.{size-right}

-- ---- the lengths

double : (a p : ℕ) → 2 ^ suc a * p ≡ 2 ^ a * p + 2 ^ a * p
double a p = ap (λ (k : ℕ). k * p) (let e : 2 ^ suc a ≡ 2 ^ a + 2 ^ a = omega arith in e) ∙ add-mul (2 ^ a) (2 ^ a) p

fours : (a p : ℕ) → p % 4 ≡ 0 → 2 ^ a * p % 4 ≡ 0
fours zero p h = omega arith
fours (suc a) p h = omega (arith, double a p, fours a p h)

-- twice a multiple of 4 is a multiple of 8
not_twice : (x p : ℕ) → x % 4 ≡ 0 → p % 8 ≡ 4 → p ≡ x + x → ⊥
not_twice x p h k e = ⊎_elim (λ l. omega (arith, div-add-mod x 4, div-add-mod p 8)) (λ l. omega (arith, div-add-mod x 4, div-add-mod p 8)) (le_or_lt (x / 4) (p / 8))

-- records of 4 bytes and a mask of whole words, 8 bytes each
pub sizes_apart : (a b p q : ℕ) → p % 8 ≡ 4 → q % 8 ≡ 4 → 2 ^ a * p ≡ 2 ^ b * q → p ≡ q
sizes_apart zero zero p q h k e = omega arith
sizes_apart zero (suc b) p q h k e = absurd (not_twice (2 ^ b * q) p (fours b q (omega arith)) h (omega (arith, double b q)))
sizes_apart (suc a) zero p q h k e = absurd (not_twice (2 ^ a * p) q (fours a p (omega arith)) k (omega (arith, double a p)))
sizes_apart (suc a) (suc b) p q h k e = sizes_apart a b p q h k (omega (arith, double a p, double b q))

pub never_both : (m n l : ℕ) → l ≡ 2 ^ m * old_record_bytes → l ≡ 2 ^ n * record_bytes → ⊥
unfolding mask_bytes record_bytes old_mask_bytes old_record_bytes
never_both m n l e f = omega (arith, sizes_apart m n old_record_bytes record_bytes refl refl (sym e ∙ f))

-- ---- an old sheet of N records, handed in

module _ (m : ℕ) (old : List ℕ) (long : length old ≡ 2 ^ m * old_record_bytes) where
  module _ (n : ℕ) where
    bad_shape_lem : bad_shape n old ≡ true
    unfolding bad_shape
    bad_shape_lem = rw (ne_eqb (length old) (2 ^ n * record_bytes) (never_both m n (length old) long)) (or_true (ltb largest_n n))

    pub check-old : (r : ℕ) → checking n old r ≡ BadShape
    unfolding checking sheet_refusals
    check-old r = rw bad_shape_lem

    module _ (r : ℕ) (w out : List ℕ) where
      pub encode_old : encoding n old r w out ≡ leaving out BadShape
      unfolding encoding encode_refusals sheet_refusals
      encode_old = rw bad_shape_lem

      pub read_old : reading_back n old r w out ≡ leaving out BadShape
      unfolding reading_back read_refusals sheet_refusals
      read_old = rw bad_shape_lem

      pub decode-old : (c : ℕ) → decoding n old r c w out ≡ leaving out BadShape
      unfolding decoding decode_refusals form_refusals sheet_refusals
      decode-old c = rw bad_shape_lem

  -- no n is found from its length
  pub size-old : largest_n < n_of old
  unfolding n_of
  size-old = ⊎_elim (λ l. absurd (never_both m (n_of old) (length old) long (size-right layout old l))) (λ l. l) (le_or_lt (n_of old) largest_n)

  pub stream_old : (ch input : List ℕ) → records old ch input ≡ refused_record BadShape ∷ []
  unfolding records
  stream_old ch input = rw (lt-ltb largest_n (n_of old) size-old)
