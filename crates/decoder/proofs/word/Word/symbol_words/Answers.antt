use native.Mathlib.Omega.{arith}
use Rattle.meaning.specs.Limits.{largest_n, largest_ceiling}
use Rattle.decoder.specs.Rooms.{most_wide, most_words}
use Rattle.decoder.proofs.Wide.{all_rows}
use Rattle.decoder.proofs.word.Word.symbol_words.Goals as goal

pub overflow_mul-result : goal.overflow_mul-result
unfolding largest_n largest_ceiling most_words most_wide
overflow_mul-result c = omega (arith, all_rows c.args.self.now)
