use mathlib.Core.Path.{ap₂, ◌∙◌}
use Prim.Native.Nat.{ℕ, ◌/◌}
use lib.Dec.{ltb}
use Rattle.meaning.specs.Stream.{n_of}
use Rattle.strip_stream.specs.Strips.{part_bytes}
use Rattle.strip_stream.proofs.Cases.{part-pos}
use Rattle.strip_stream.proofs.Writing.{short_is}
use native.Mathlib.Omega.{arith}
use Rattle.strip_stream.proofs.short.Goals as goal

pub nonzero_div-result : goal.nonzero_div-result
nonzero_div-result c = omega (arith, c.part.ensures, part-pos (n_of c.args.sheet.now))

pub returns : goal.returns
returns c =
    let A = c.args in
    ap₂ (λ (p k : ℕ). ltb (A.room / p) k) c.part.ensures c.parts.ensures ∙ short_is A.room (part_bytes (n_of A.sheet.now)) _ (part-pos (n_of A.sheet.now))
