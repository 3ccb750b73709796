-- `header` gives two bytes for each of the five numbers, and zeros behind them.
use mathlib.Core.List.{flatten}
use Rattle.meaning.specs.Limits.{head_bytes}
use Rattle.meaning.proofs.Heading.{headed}
use Rattle.answers.proofs.header.Goals as goal

pub returns : goal.returns
unfolding flatten head_bytes
returns c =
    rw (c.two_bytes-code.ensures, c.two_bytes-place.ensures, c.two_bytes-g.ensures, c.two_bytes-m.ensures, c.two_bytes-d.ensures)
    (headed c.args.a _ c.numbers.ensures)
