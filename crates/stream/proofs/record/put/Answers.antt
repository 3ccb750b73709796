use mathlib.Core.Path.{◌≡◌, ap, ◌∙◌}
use mathlib.Core.List.{List, ◌++◌}
use Prim.Native.Nat.{ℕ}
use lib.ListN.{length}
use Rattle.meaning.specs.Stream.{answer_bytes}
use Rattle.meaning.specs.Limits.{head_bytes, strip_width}
use Rattle.meaning.proofs.Heading.{header-long}
use Rattle.bits.proofs.Copied.{copied_whole}
use Rattle.stream.proofs.Laying.{put_whole, put-room}
use native.Mathlib.Omega.{arith}
use Rattle.stream.proofs.record.put.Goals as goal

pub slice_bounds-copy-end : goal.slice_bounds-copy-end
unfolding head_bytes
slice_bounds-copy-end c =
    let header-long-is : length c.header.result ≡ head_bytes = ap length c.header.ensures ∙ header-long c.args.a in
    omega (arith, header-long-is)

pub slice_bounds-copy-count : goal.slice_bounds-copy-count
unfolding answer_bytes head_bytes strip_width
slice_bounds-copy-count c = omega (arith, c.requires.1)

pub slice_bounds-copy-start : goal.slice_bounds-copy-start
unfolding answer_bytes head_bytes strip_width
slice_bounds-copy-start c = omega (arith, c.requires.1)

pub returns : goal.returns
unfolding answer_bytes head_bytes strip_width
returns c =
    let long : length c.header.result ≡ head_bytes = ap length c.header.ensures ∙ header-long c.args.a in
    let first = copied_whole c.header.result c.args.out.now c.copy.new.to (omega (arith, long, c.requires.1)) c.copy.ensures in
    let room = put-room c.args.strips.now c.copy.new.to head_bytes (omega (arith, c.requires.0, c.requires.1)) in
    put_whole c.header.result c.args.strips.now c.args.out.now _ head_bytes long (omega (arith, c.requires.0, c.requires.1)) _ first (copied_whole _ _ _ room c.copy-2.ensures)
    ∙ ap (λ (t : List ℕ). t ++ c.args.strips.now) c.header.ensures
