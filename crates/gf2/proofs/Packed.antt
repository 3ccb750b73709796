-- Assignments packed into words: the sum of a row's unknowns is the parity of its words AND those of the assignment.
--     parity_hom     that parity is a form, whatever the words
--     parity-is      it is the sum of the row's unknowns at the assignment that the words hold
use mathlib.Core.Path.{◌≡◌, refl, sym, ap, ap₂, ◌∙◌}
use Prim.Native.Nat.{ℕ, zero, suc, ◌+◌, ◌*◌, ◌/◌, ◌%◌, ◌^◌, ◌≤◌, ◌<◌}
use native.Mathlib.Omega.{arith}
use native.Mathlib.Nat.{div-one}
use mathlib.Core.Bool.{Bool, ◌&&◌}
use lib.ListN.{length, get_or, length-append}
use lib.Pow.{shr-shr}
use lib.Dec.{eqb}
use Rattle.bits.specs.Vectors.{◌⊕◌, odd}
use Rattle.bits.specs.Words.{odd_of, word_bits}
use Rattle.bits.proofs.Xor.{⊕-swap}
use Rattle.bits.proofs.WordBits.{odd_xor, length-word_bits, odd-word_bits}
use Rattle.bits.specs.Rows.{Row, has_at}
use Rattle.gf2.specs.System.{Hom, dot, unpack, parity}
use Rattle.bits.proofs.RowXor.{get_or-⊻, has-is}
use Rattle.gf2.proofs.Sums.{dot_append}

pub parity_hom : (c : ℕ) (z : Row) → Hom (parity c z)
unfolding parity
parity_hom zero z x y = refl
parity_hom (suc c) z x y =
    ap₂ ◌⊕◌ (parity_hom c z x y) (ap (λ (n : ℕ). odd_of n (get_or z c 0)) (get_or-⊻ x y c) ∙ odd_xor (get_or x c 0) (get_or y c 0) (get_or z c 0))
    ∙ ⊕-swap (parity c z x) (parity c z y) (odd_of (get_or x c 0) (get_or z c 0)) (odd_of (get_or y c 0) (get_or z c 0))

-- the unknowns of one word, from its bit i on
dot_word : (n c i : ℕ) (x : Row) (v : ℕ) → i + n ≤ 64 → dot (64 * c + i) x (word_bits n v) ≡ odd (word_bits n (get_or x c 0 / 2 ^ i)) (word_bits n v)
unfolding dot word_bits has_at
dot_word zero c i x v h = refl
dot_word (suc n) c i x v h =
    ap₂ (λ (a b : Bool). (a && eqb (v % 2) 1) ⊕ b) (has-is c i x (omega arith))
    (ap (λ (k : ℕ). dot k x (word_bits n (v / 2))) (omega arith) ∙ dot_word n c (suc i) x (v / 2) (omega arith)
    ∙ ap (λ (k : ℕ). odd (word_bits n k) (word_bits n (v / 2))) (sym (shr-shr (get_or x c 0) i 1 ∙ ap (λ (k : ℕ). get_or x c 0 / 2 ^ k) (omega arith))))

length-unpack : (c : ℕ) (z : Row) → length (unpack c z) ≡ 64 * c
unfolding unpack
length-unpack zero z = omega arith
length-unpack (suc c) z = length-append (unpack c z) (word_bits 64 (get_or z c 0)) ∙ ap₂ ◌+◌ (length-unpack c z) (length-word_bits 64 (get_or z c 0)) ∙ omega arith

pub parity-is : (c : ℕ) (z x : Row) → ((k : ℕ) → k < c → get_or z k 0 < 2 ^ 64) → dot 0 x (unpack c z) ≡ parity c z x
unfolding unpack parity dot
parity-is zero z x h = refl
parity-is (suc c) z x h =
    let v = get_or z c 0 in
    let n : 0 + length (unpack c z) ≡ 64 * c + 0 = let m = length-unpack c z in omega arith in
    dot_append 0 x (unpack c z) (word_bits 64 v)
    ∙ ap₂ ◌⊕◌ (parity-is c z x (λ k l. h k (omega arith)))
    (ap (λ (k : ℕ). dot k x (word_bits 64 v)) n ∙ dot_word 64 c 0 x v (omega arith)
    ∙ ap (λ (k : ℕ). odd (word_bits 64 k) (word_bits 64 v)) (div-one (get_or x c 0)) ∙ odd-word_bits 64 (get_or x c 0) v (h c (omega arith)))
