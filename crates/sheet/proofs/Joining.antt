-- The bits of a mask's word, byte by byte.
--     no_word, no_record, all_there     the word that `word` reads
--     word_there, word_here      of a record that is there it has the names
--     word_same                  there is one such word
use mathlib.Core.Path.{◌≡◌, refl, sym, ap, ◌∙◌}
use Prim.Native.Nat.{ℕ, ◌+◌, ◌*◌, ◌/◌, ◌%◌, ◌≤◌, ◌<◌}
use native.Mathlib.Omega.{arith}
use mathlib.Core.Bool.{Bool, true, false, true≢false}
use mathlib.Core.List.{List}
use lib.ListN.{length, get_or}
use lib.Dec.{ltb}
use borrow.Author.Tests.{lt-ltb, le-ltb}
use Rattle.bits.specs.Words.{has_bit}
use Rattle.bits.specs.Bytes.{Holds, EightOf}
use Rattle.bits.proofs.Tests.{and_r, and_i}
use Rattle.bits.proofs.WordBits.{same_bits}
use Rattle.bits.proofs.Joining.{eight_there}
use Rattle.meaning.specs.Limits.{record_bytes, mask_bytes}
use Rattle.meaning.specs.Sheet.{names}
use Rattle.sheet.specs.Masks.{mask_words, inside, Spelt, WordOf}

spelt : (s : List ℕ) (i k r : ℕ) → Holds 8 s (i * record_bytes + 4 + 8 * k) r → Spelt s i k r
unfolding names
spelt s i k r h = record {
  bits = λ j l.
      let p : i * record_bytes + 4 + 8 * k + j / 8 ≡ i * record_bytes + (4 + (64 * k + j) / 8) = omega arith in
      let q : j % 8 ≡ (64 * k + j) % 8 = omega arith in
      h.bits j l ∙ ap (λ (x : ℕ). has_bit (get_or s x 0) (j % 8)) p ∙ ap (has_bit (get_or s (i * record_bytes + (4 + (64 * k + j) / 8)) 0)) q;
  small = h.small;
}

-- ---- what `word` answers

pub no_word : (s : List ℕ) (i k : ℕ) → mask_words ≤ k → WordOf s i k 0
unfolding inside
no_word s i k h = record { there = λ e. absurd (true≢false (sym e ∙ rw (le-ltb k mask_words h) refl)); missing = λ e. refl }

pub no_record : (s : List ℕ) (i k : ℕ) → length s / record_bytes ≤ i → WordOf s i k 0
unfolding inside
no_record s i k h = record { there = λ e. absurd (true≢false (sym (and_r (ltb k mask_words) _ e) ∙ le-ltb i (length s / record_bytes) h)); missing = λ e. refl }

-- the mask's bytes lie within the sheet
mask-lies : (len i k : ℕ) → k < mask_words → i < len / record_bytes → i * record_bytes + 4 + 8 * k + 8 ≤ len
unfolding mask_bytes record_bytes
mask-lies len i k hk hi = omega arith

pub all_there : (s : List ℕ) (i k r : ℕ) → k < mask_words → i < length s / record_bytes → EightOf s (i * record_bytes + 4 + 8 * k) r → WordOf s i k r
unfolding inside
all_there s i k r hk hi h =
    record {
      there = λ e. spelt s i k r (eight_there s (i * record_bytes + 4 + 8 * k) r (mask-lies (length s) i k hk hi) h);
      missing = λ e. absurd (true≢false (sym (and_i _ _ (lt-ltb k mask_words hk) (lt-ltb i (length s / record_bytes) hi)) ∙ e));
    }

-- of a record that is there
pub word_there : (s : List ℕ) (i k r : ℕ) → k < mask_words → (i + 1) * record_bytes ≤ length s → WordOf s i k r → Spelt s i k r
unfolding inside mask_bytes record_bytes
word_there s i k r hk hi h = h.there (and_i _ _ (lt-ltb k mask_words hk) (lt-ltb i (length s / record_bytes) (omega arith)))

-- and of a position of its mask
pub word_here : (s : List ℕ) (i j r : ℕ) → j < 8 * mask_bytes → (i + 1) * record_bytes ≤ length s → WordOf s i (j / 64) r → Spelt s i (j / 64) r
unfolding mask_bytes
word_here s i j r hj hi h = word_there s i (j / 64) r (omega arith) hi h

pub word_same : (s : List ℕ) (i k r r' : ℕ) → WordOf s i k r → WordOf s i k r' → r ≡ r'
word_same s i k r r' a b = go (inside s i k) refl
  where
    go : (t : Bool) → inside s i k ≡ t → r ≡ r'
    go true e = let x = a.there e in let y = b.there e in same_bits 64 r r' x.small y.small (λ j l. x.bits j l ∙ sym (y.bits j l))
    go false e = a.missing e ∙ sym (b.missing e)
