use mathlib.Core.Path.{refl}
use Rattle.meaning.specs.Limits.{mask_bytes}
use Rattle.codec.proofs.rules.Values.none.Goals as goal

pub returns : goal.returns
unfolding mask_bytes
returns c = refl
