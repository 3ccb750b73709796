use Rattle.std.proofs.Common.{◌≡◌, ◌∙◌, length, take, arith}
use lib.Seq.{length-take-le}
use Rattle.meaning.specs.Limits.{largest_n, head_bytes, strip_width}
use Rattle.meaning.specs.Stream.{answer_bytes}
use Rattle.recover.specs.Runs.{run_words}
use Rattle.recover.proofs.Fit.next.Goals as goal

pub slice_bounds-turn-end : goal.slice_bounds-turn-end
unfolding largest_n run_words
slice_bounds-turn-end c = omega (arith, c.args.self.now.within, c.told-input)

pub turn-requires : goal.turn-requires
unfolding largest_n run_words answer_bytes head_bytes strip_width
turn-requires c =
    let f = c.args.self.now in
    let n : length (take f.run c.args.input.now) ≡ f.run = length-take-le f.run c.args.input.now (omega (arith, f.within, c.told-input)) in
    record { small = f.ready.small; two = f.ready.two; words = n ∙ f.ready.words; roomy = omega (arith, c.told-out) }
