use lib.ListN.{length, take, length-take}
use Rattle.meaning.specs.Limits.{largest_n, head_bytes}
use Rattle.strip_stream.specs.Strips.{part_bytes}
use Rattle.repair.specs.Runs.{run_strips}
use Rattle.repair.proofs.Runs.{run_room}
use native.Mathlib.Nat.{le_trans}
use native.Mathlib.Omega.{arith}
use Rattle.repair.proofs.Fit.turn.Goals as goal

pub answer-written-requires : goal.answer-written-requires
unfolding run_strips part_bytes head_bytes largest_n
answer-written-requires c =
    let f = c.args.self.now in
    let got = c.read-got in
    let r = run_room f.lot.sheet.now f.lot.choice.now (length c.args.run.now) _ _ c.requires (take got.result.n got.new.buf) (simp length-take (omega (arith, got.ensures.n_in_bounds, got.auto.buf))) in
    record { parts_fit = le_trans r.parts_fit (omega arith); records_fit = le_trans r.records_fit (omega arith) }
