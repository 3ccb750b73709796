use mathlib.Core.Path.{◌≡◌, sym, ap, ap₂, ◌∙◌}
use Prim.Native.Nat.{ℕ, suc, ◌+◌, ◌-◌, ◌^◌, ◌/◌}
use mathlib.Core.Bool.{not}
use native.Mathlib.Omega.{arith}
use lib.ListN.{length}
use borrow.Author.Tests.{not-true}
use Rattle.meaning.specs.Limits.{mask_bytes}
use Rattle.counting.specs.Halves.{open_frees}
use Rattle.bits.proofs.Parts.{half_of}
use Rattle.counting.proofs.Counting.{counts_one, counts-most, counts-none, counts_halves}
use Rattle.counting.proofs.+block.Goals as goal

pub spread-requires : goal.spread-requires
spread-requires t c =
    let (a, b) = half_of c.args.k (length c.args.marks.now) c.if-k-eq0.false c.requires.0 in
    let P = c.split_at_mut-left.ensures in
    omega (arith, P.front_len, P.back_len)

pub block-requires : goal.block-requires
unfolding mask_bytes
block-requires t c =
    let (a, b) = half_of c.args.k (length c.args.marks.now) c.if-k-eq0.false c.requires.0 in
    let l = c.spread.auto.left ∙ c.split_at_mut-left.ensures.front_len in
    (omega (arith, c.if-k-eq0.false), (l ∙ b, omega (arith, c.requires.1)))

pub block-requires-else-not-some_lost : goal.block-requires-else-not-some_lost
unfolding mask_bytes
block-requires-else-not-some_lost t c =
    let (a, b) = half_of c.args.k (length c.args.marks.now) c.if-k-eq0.false c.requires.0 in
    let P = c.split_at_mut-left.ensures in
    let r : length c.spread.new.right ≡ length c.args.marks.now / 2 = c.spread.auto.right ∙ omega (arith, P.back_len) in
    (omega (arith, c.if-k-eq0.false), (r ∙ b, omega (arith, c.requires.1)))

pub overflow_add-result : goal.overflow_add-result
overflow_add-result t c =
    let A = c.args in
    let h = length A.marks.now / 2 in
    let (a, b) = half_of A.k (length A.marks.now) c.if-k-eq0.false c.requires.0 in
    let P = c.split_at_mut-left.ensures in
    let l : length c.spread.new.left ≡ h = c.spread.auto.left ∙ P.front_len in
    let r : length c.spread.new.right ≡ h = c.spread.auto.right ∙ omega (arith, P.back_len) in
    let x = counts-most A.sheet.now A.at (A.k - 1) c.spread.new.left (l ∙ b) in
    let y = counts-most A.sheet.now (A.at + h) (A.k - 1) c.spread.new.right (r ∙ b) in
    omega (arith, c.block.ensures, c.block-else-not-some_lost.ensures, c.well_formed)

pub returns-then-k-eq0 : goal.returns-then-k-eq0
returns-then-k-eq0 t c =
    let A = c.args in
    c.one.ensures ∙ counts_one A.sheet.now A.at A.k A.marks.now c.if-k-eq0.true (c.requires.0 ∙ ap (λ (x : ℕ). 2 ^ x) c.if-k-eq0.true)

pub returns-then-not-some_lost : goal.returns-then-not-some_lost
returns-then-not-some_lost t c =
    let A = c.args in
    counts-none A.sheet.now A.at A.k A.marks.now c.requires.0 (sym c.some_lost.ensures ∙ not-true _ (ap not c.if-not-some_lost.true))

pub returns-else-not-some_lost : goal.returns-else-not-some_lost
returns-else-not-some_lost t c =
    let A = c.args in
    let h = length A.marks.now / 2 in
    let (a, b) = half_of A.k (length A.marks.now) c.if-k-eq0.false c.requires.0 in
    let S = c.spread in
    let P = c.split_at_mut-left.ensures in
    let r : length c.split_at_mut-left.result.1.now ≡ h = omega (arith, P.back_len) in
    let up : A.k ≡ suc (A.k - 1) = omega (arith, c.if-k-eq0.false) in
    ap₂ ◌+◌ c.block.ensures c.block-else-not-some_lost.ensures
    ∙ sym (counts_halves A.sheet.now A.at (A.k - 1) h _ _ S.new.left S.new.right b P.front_len r (S.auto.left ∙ P.front_len) (S.auto.right ∙ r) S.ensures)
    ∙ ap₂ (open_frees A.sheet.now A.at) (sym up) (sym P.value)
