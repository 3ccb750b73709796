use mathlib.Core.Path.{◌≡◌, ap, ◌∙◌}
use Prim.Native.Nat.{ℕ, ◌*◌, ◌^◌, ◌≤◌}
use native.Mathlib.Omega.{arith}
use mathlib.Core.List.{List}
use lib.ListN.{length, take, replicate, length-take, length-replicate}
use Rattle.bits.specs.Vectors.{tab}
use Rattle.sheet.specs.Shapes.{positions}
use Rattle.meaning.specs.Answers.{bad_shape}
use Rattle.meaning.specs.Limits.{layout, old_layout}
use Rattle.sheet_convert.specs.Conversion.{wide_at, widened, Old, handing}
use Rattle.meaning.specs.Limits.{record_bytes, mask_bytes, old_largest_n, old_record_bytes, old_mask_bytes}
use Rattle.sheet_convert.proofs.Converting.{too_large, not-long, new_shape, handed}
use Rattle.sheet_convert.proofs.Widening.{size_fits, old-positions}
use Rattle.sheet_convert.proofs.convert.Goals as goal

pub returns-then-n-gt-OLD_LARGEST_N : goal.returns-then-n-gt-OLD_LARGEST_N
unfolding old_largest_n
returns-then-n-gt-OLD_LARGEST_N c = too_large _ _ _ (omega arith)

pub overflow_mul-size : goal.overflow_mul-size
unfolding old_largest_n old_mask_bytes
overflow_mul-size c = let h = c.if-n-gt-OLD_LARGEST_N.false in omega (arith, c.size-size.ensures, old-positions _ h, size_fits _ h)

pub returns-then-old-size : goal.returns-then-old-size
unfolding old_largest_n old_record_bytes old_mask_bytes
returns-then-old-size c = not-long _ _ _ _ c.if-n-gt-OLD_LARGEST_N.false (c.size-size.ensures ∙ old-positions _ c.if-n-gt-OLD_LARGEST_N.false) (omega arith)

pub overflow_mul-room : goal.overflow_mul-room
unfolding old_largest_n old_mask_bytes
overflow_mul-room c = let h = c.if-n-gt-OLD_LARGEST_N.false in omega (arith, c.size-size.ensures, old-positions _ h, size_fits _ h)

pub slice_bounds-room-end : goal.slice_bounds-room-end
unfolding old_largest_n old_mask_bytes
slice_bounds-room-end c = let h = c.if-n-gt-OLD_LARGEST_N.false in omega (arith, c.size-size.ensures, old-positions _ h, size_fits _ h)

-- the part of the room that is lent has the new sheet's length
lent : (n size : ℕ) → n ≤ old_largest_n → size ≡ positions n → length (take (size * record_bytes) (replicate {A = ℕ} (2 ^ old_largest_n * record_bytes) 0)) ≡ 2 ^ n * record_bytes
unfolding record_bytes mask_bytes old_largest_n old_mask_bytes
lent n size h e = simp length-take (omega (arith, length-replicate {A = ℕ} (2 ^ old_largest_n * record_bytes) 0, e, old-positions n h, size_fits n h))

-- an old sheet of N records
is-old : (n size : ℕ) (old : List ℕ) → n ≤ old_largest_n → size ≡ positions n → length old ≡ size * old_record_bytes → Old n old
is-old n size old h e l = record { small = h; long = l ∙ ap (λ (k : ℕ). k * old_record_bytes) (e ∙ old-positions n h) }

-- a room of the new sheet's length, filled with its bytes
filled : (n m : ℕ) (old sheet : List ℕ) → sheet ≡ tab m (wide_at old_layout layout old) → m ≡ 2 ^ n * record_bytes → sheet ≡ widened old_layout layout n old
unfolding widened
filled n m old sheet e l = e ∙ ap (λ (k : ℕ). tab k (wide_at old_layout layout old)) l

pub slice_bounds-sheet-end : goal.slice_bounds-sheet-end
unfolding record_bytes mask_bytes old_largest_n old_mask_bytes
slice_bounds-sheet-end c =
    let h = c.if-n-gt-OLD_LARGEST_N.false in
    omega (arith, lent c.args.n c.size-size.result h c.size-size.ensures, c.size-size.ensures, old-positions c.args.n h)

pub widen-requires : goal.widen-requires
unfolding record_bytes mask_bytes old_record_bytes old_largest_n old_mask_bytes
widen-requires c =
    let h = c.if-n-gt-OLD_LARGEST_N.false in
    omega (arith, lent c.args.n c.size-size.result h c.size-size.ensures, c.size-size.ensures, old-positions c.args.n h, c.if-old-size.false)

pub hand_out-requires : goal.hand_out-requires
unfolding record_bytes mask_bytes old_record_bytes old_largest_n old_mask_bytes
hand_out-requires c =
    let A = c.args in
    let h = c.if-n-gt-OLD_LARGEST_N.false in
    ap (bad_shape A.n) (filled A.n _ A.old.now _ c.widen.ensures (lent A.n c.size-size.result h c.size-size.ensures)) ∙ new_shape A.n A.old.now (is-old A.n _ A.old.now h c.size-size.ensures c.if-old-size.false)

pub returns : goal.returns
unfolding record_bytes mask_bytes old_record_bytes old_largest_n old_mask_bytes
returns c =
    let A = c.args in
    let h = c.if-n-gt-OLD_LARGEST_N.false in
    c.hand_out.ensures ∙ ap (λ (s : List ℕ). handing A.n s A.out.now) (filled A.n _ A.old.now _ c.widen.ensures (lent A.n c.size-size.result h c.size-size.ensures))
    ∙ handed A.n A.old.now (is-old A.n _ A.old.now h c.size-size.ensures c.if-old-size.false) A.out.now
