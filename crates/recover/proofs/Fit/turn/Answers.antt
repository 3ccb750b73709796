use lib.ListN.{length, take, length-take}
use Rattle.meaning.specs.Limits.{head_bytes, strip_width}
use Rattle.meaning.specs.Stream.{answer_bytes}
use Rattle.recover.specs.Runs.{run_words}
use Rattle.recover.proofs.Runs.{run_room}
use native.Mathlib.Omega.{arith}
use Rattle.recover.proofs.Fit.turn.Goals as goal

pub answer-written-requires : goal.answer-written-requires
unfolding run_words answer_bytes head_bytes strip_width
answer-written-requires c =
    let f = c.args.self.now in
    let got = c.read-got in
    omega (arith, run_room f.lot.sheet.now f.lot.choice.now (length c.args.run.now) _ c.requires (take got.result.n got.new.buf) (simp length-take (omega (arith, got.ensures.n_in_bounds, got.auto.buf))))
