-- Words of bytes.
--     word_of_bytes              what the word of some bytes holds
--     out_of, inside             the word that `eight` reads
--     eight_there                of bytes that lie within the slice it has the bits
--     eight_same                 there is one such word
use mathlib.Core.Path.{◌≡◌, refl, sym, ap, ◌∙◌}
use mathlib.Core.Logic.{⊎_elim}
use Prim.Native.Nat.{ℕ, zero, suc, ◌+◌, ◌*◌, ◌-◌, ◌/◌, ◌%◌, ◌^◌, ◌≤◌, ◌<◌}
use native.Mathlib.Omega.{arith}
use native.Mathlib.Nat.{add_comm, zero-add, pow-suc}
use lib.Pow.{pow-add}
use Rattle.std.specs.Int.{w64, from_le_bytes, byte_worth, sum_through}
use mathlib.Core.Bool.{Bool, true, false, true≢false}
use mathlib.Core.List.{List}
use lib.ListN.{length, take, drop, get_or}
use borrow.Author.Tests.{lt-leb, le-leb}
use Rattle.bits.specs.Words.{has_bit}
use Rattle.bits.specs.Rows.{lies}
use Rattle.bits.proofs.Parts.{from}
use Rattle.bits.specs.Bytes.{Holds, EightOf}
use Rattle.bits.proofs.Tests.{le_or_lt}
use Rattle.bits.proofs.RowLaws.{get_or_part}
use Rattle.bits.proofs.WordBits.{low_bit, high_bit, join_lt, same_bits}

one_byte : (s : List ℕ) (at : ℕ) → get_or s at 0 < 256 → Holds 1 s at (get_or s at 0)
one_byte s at h = record {
  bits = λ j l.
      let p : at ≡ at + j / 8 = omega arith in
      let q : j ≡ j % 8 = omega arith in
      ap (λ (x : ℕ). has_bit (get_or s x 0) j) p ∙ ap (has_bit (get_or s (at + j / 8) 0)) q;
  small = h;
}

pow_byte : (n : ℕ) → 256 ^ n ≡ 2 ^ (8 * n)
pow_byte zero = refl
pow_byte (suc n) = let e : 8 * suc n ≡ 8 * n + 8 = omega arith in rw (pow-suc 256 n, e, pow-add 2 (8 * n) 8, pow_byte n) refl

-- a byte more, above the others
next_byte : (n : ℕ) (s : List ℕ) (r b : ℕ) → Holds n s 0 r → b ≡ get_or s n 0 → b < 256 → Holds (suc n) s 0 (r + b * 256 ^ n)
next_byte n s r b h e l =
    rw (pow_byte n) (record {
      bits = λ j k.
          ⊎_elim
          (λ (p : 8 * n ≤ j).
          let t : ℕ = j - 8 * n in
          let i : j ≡ 8 * n + t = omega arith in
          let q : n ≡ 0 + j / 8 = omega arith in
          let u : t ≡ j % 8 = omega arith in
          ap (λ (x : ℕ). has_bit x j) (add_comm r (b * 2 ^ (8 * n))) ∙ ap (has_bit (b * 2 ^ (8 * n) + r)) i ∙ high_bit (8 * n) t r b h.small
          ∙ ap (λ (x : ℕ). has_bit x t) e ∙ ap (λ (x : ℕ). has_bit (get_or s x 0) t) q ∙ ap (has_bit (get_or s (0 + j / 8) 0)) u)
          (λ (p : j < 8 * n). ap (λ (x : ℕ). has_bit x j) (add_comm r (b * 2 ^ (8 * n))) ∙ low_bit (8 * n) j r b h.small p ∙ h.bits j p)
          (le_or_lt (8 * n) j);
      small = let i : 8 * suc n ≡ 8 * n + 8 = omega arith in rw i (join_lt (8 * n) 8 r b h.small l);
    })

-- the word of all bytes up to n
word_of_bytes : (s : List ℕ) (n : ℕ) → ((i : ℕ) → i ≤ n → get_or s i 0 < 256) → Holds (suc n) s 0 (sum_through (λ i. byte_worth i (get_or s i 0)) n)
word_of_bytes s zero h = one_byte s 0 (h 0 (omega arith))
word_of_bytes s (suc n) h =
    next_byte (suc n) s (sum_through (λ i. byte_worth i (get_or s i 0)) n) (get_or s (suc n) 0) (word_of_bytes s n (λ i l. h i (omega arith))) refl (h (suc n) (omega arith))

-- ---- what `eight` answers

pub out_of : (s : List ℕ) (at : ℕ) → length s < at + 8 → EightOf s at 0
unfolding lies
out_of s at h = record { there = λ e. absurd (true≢false (sym e ∙ lt-leb (at + 8) (length s) h)); missing = λ e. refl }

pub inside : (s : List ℕ) (at r : ℕ) (word : List ℕ) → ((i : ℕ) → get_or s i 0 < 256) → r ≡ from_le_bytes w64 word → at + 8 ≤ length s → word ≡ take 8 (take (length s - at) (drop at s)) → EightOf s at r
unfolding lies
inside s at r word h m l e =
    let here : (i : ℕ) → i < 8 → get_or word i 0 ≡ get_or s (at + i) 0 =
    λ i k. ap (λ (t : List ℕ). get_or t i 0) (e ∙ ap (take 8) (from s at)) ∙ get_or_part s at 8 i k in
    let w = word_of_bytes word 7 (λ i k. rw (here i (omega arith)) (h (at + i))) in
    record {
      there = λ _. record {
        bits = λ j k. let q : j / 8 < 8 = omega arith in
            ap (λ (x : ℕ). has_bit x j) m ∙ w.bits j k ∙ ap (λ (x : ℕ). has_bit x (j % 8)) (rw (zero-add (j / 8)) (here (j / 8) q));
        small = rw m w.small;
      };
      missing = λ t. absurd (true≢false (sym (le-leb (at + 8) (length s) l) ∙ t));
    }

pub eight_there : (s : List ℕ) (at r : ℕ) → at + 8 ≤ length s → EightOf s at r → Holds 8 s at r
unfolding lies
eight_there s at r l h = h.there (le-leb (at + 8) (length s) l)

pub eight_same : (s : List ℕ) (at r r' : ℕ) → EightOf s at r → EightOf s at r' → r ≡ r'
eight_same s at r r' a b = go (lies (length s) at 8) refl
  where
    go : (t : Bool) → lies (length s) at 8 ≡ t → r ≡ r'
    go true e = let x = a.there e in let y = b.there e in same_bits 64 r r' x.small y.small (λ j l. x.bits j l ∙ sym (y.bits j l))
    go false e = a.missing e ∙ sym (b.missing e)
