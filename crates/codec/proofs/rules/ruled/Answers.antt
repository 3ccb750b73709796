use mathlib.Core.Path.{sym}
use Prim.Native.Nat.{ℕ, ◌*◌}
use mathlib.Core.List.{List}
use native.Mathlib.Omega.{arith}
use lib.ListN.{length, take, replicate}
use Rattle.meaning.specs.Limits.{mask_bytes}
use Rattle.codec.proofs.Reading.{room_for, lent, compared}
use Rattle.codec.proofs.rules.ruled.Goals as goal

-- the part of the room that is lent
abbrev lend : List ℕ → List ℕ
lend u = take (length u) (replicate {A = ℕ} (8 * mask_bytes) 0)

pub slice_bounds-room-end : goal.slice_bounds-room-end
unfolding mask_bytes
slice_bounds-room-end c = omega arith

pub slice_bounds-again-end : goal.slice_bounds-again-end
unfolding mask_bytes
slice_bounds-again-end c = sym (room_for (length c.args.u.now) c.requires.within)

pub place_bits-requires : goal.place_bits-requires
unfolding mask_bytes
place_bits-requires c =
    let u = c.args.u.now in
    lent c.args.sheet.now c.args.free.now u (lend u) (room_for (length u) c.requires.within) c.requires

pub returns : goal.returns
unfolding mask_bytes
returns c =
    let u = c.args.u.now in
    compared c.args.sheet.now c.args.free.now u (lend u) (room_for (length u) c.requires.within) c.place_bits.new.u c.place_bits.ensures _ c.eq.ensures
