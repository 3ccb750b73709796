use mathlib.Core.Path.{refl}
use Rattle.meaning.specs.Limits.{head_bytes, strip_width}
use Rattle.meaning.specs.Stream.{answer_bytes}
use Rattle.recover.proofs.Runs.{filled_in_lem}
use native.Mathlib.Omega.{arith}
use Rattle.recover.proofs.Lot.fill.Goals as goal

pub overflow_mul-result : goal.overflow_mul-result
unfolding answer_bytes head_bytes strip_width
overflow_mul-result c = omega (arith, c.records-k.ensures, c.requires, c.well_formed)

pub returns : goal.returns
unfolding answer_bytes head_bytes strip_width
returns c =
    let l = c.args.self.now in filled_in_lem l.sheet.now l.choice.now _ c.args.out.now _ _ _ _ refl c.answer.ensures c.requires c.records-k.ensures
