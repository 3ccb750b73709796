use Rattle.std.proofs.Common.{◌≡◌, ◌∙◌, length, take, arith}
use lib.Seq.{length-take-le}
use native.Mathlib.Nat.{le_trans}
use Rattle.meaning.specs.Limits.{largest_n, head_bytes}
use Rattle.strip_stream.specs.Strips.{strip_bytes, part_bytes}
use Rattle.repair.specs.Runs.{run_strips}
use Rattle.repair.proofs.Fit.next.Goals as goal

pub slice_bounds-turn-end : goal.slice_bounds-turn-end
unfolding largest_n run_strips strip_bytes
slice_bounds-turn-end c = omega (arith, c.args.self.now.within, c.told-input)

pub turn-requires : goal.turn-requires
unfolding largest_n run_strips strip_bytes part_bytes head_bytes
turn-requires c =
    let f = c.args.self.now in
    let n : length (take f.run c.args.input.now) ≡ f.run = length-take-le f.run c.args.input.now (omega (arith, f.within, c.told-input)) in
    record {
      small = f.ready.small;
      two = f.ready.two;
      strips = n ∙ f.ready.strips;
      parts_fit = le_trans f.ready.parts_fit (omega (arith, c.told-repaired));
      records_fit = omega (arith, c.told-records);
    }
