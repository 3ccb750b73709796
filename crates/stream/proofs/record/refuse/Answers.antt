use mathlib.Core.Path.{ap₂, ◌∙◌}
use mathlib.Core.List.{List, ◌++◌}
use Prim.Native.Nat.{ℕ}
use Rattle.meaning.specs.Stream.{header, refused_record}
use Rattle.stream.proofs.record.refuse.Goals as goal

pub returns : goal.returns
unfolding refused_record
returns c = c.put.ensures ∙ ap₂ {C = List ℕ} (λ a (t : List ℕ). header a ++ t) c.from.ensures c.blank.ensures
