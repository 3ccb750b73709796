use mathlib.Core.Path.{◌≡◌, sym, ap, ◌∙◌}
use mathlib.Core.List.{List, ◌++◌}
use Prim.Native.Nat.{ℕ}
use lib.ListN.{length, drop, length-take}
use Rattle.meaning.specs.Limits.{head_bytes}
use Rattle.meaning.proofs.Heading.{header-long}
use native.Mathlib.Omega.{arith}
use Rattle.strip_stream.proofs.put.Goals as goal

pub slice_bounds-copy_from_slice-end : goal.slice_bounds-copy_from_slice-end
unfolding head_bytes
slice_bounds-copy_from_slice-end c = c.requires

pub slice_bounds-copy_from_slice-end-2 : goal.slice_bounds-copy_from_slice-end-2
unfolding head_bytes
slice_bounds-copy_from_slice-end-2 c = sym (simp length-take (omega (arith, c.requires)))

pub copy_from_slice-requires : goal.copy_from_slice-requires
unfolding head_bytes
copy_from_slice-requires c =
    let long : length c.header.result ≡ head_bytes = ap length c.header.ensures ∙ header-long c.args.a in
    simp length-take (omega (arith, long, c.requires))

pub returns : goal.returns
unfolding head_bytes
returns c = ap (λ (t : List ℕ). t ++ drop head_bytes c.args.records.now) (c.copy_from_slice.ensures.after ∙ c.header.ensures)
