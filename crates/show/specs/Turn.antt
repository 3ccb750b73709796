-- What a turn writes that read `got` bytes and holds the record r.
use Rattle.std.specs.Prelude.{ℕ, List, [], eqb}
use Rattle.bits.specs.Vectors.{pick}
use Rattle.meaning.specs.Stream.{answer_bytes}
use Rattle.show.specs.Line.{line_of}

-- a record that is cut off gets no line
unfoldable pub written : ℕ → List ℕ → List ℕ
written got r = pick (eqb got answer_bytes) (line_of r) []
