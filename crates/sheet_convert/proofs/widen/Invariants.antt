use lib.ListN.{length}
use Rattle.meaning.specs.Limits.{layout, old_layout}
use Rattle.sheet_convert.specs.Conversion.{wide_at}
use Rattle.bits.proofs.Filling.{Filling}
use Rattle.sheet_convert.proofs.widen.Given as goal

abbrev pub invariant-loop-p : goal.invariant-loop-p
invariant-loop-p l = Filling (wide_at old_layout layout l.old) (length l.initial.sheet) l.sheet l.p
