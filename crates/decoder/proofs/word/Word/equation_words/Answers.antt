use native.Mathlib.Omega.{arith}
use Rattle.meaning.specs.Limits.{largest_n, largest_ceiling}
use Rattle.system.specs.Solving.{longest_check}
use Rattle.decoder.specs.Rooms.{most_wide, most_words}
use Rattle.decoder.proofs.Wide.{all_rows, check_rows}
use Rattle.decoder.proofs.word.Word.equation_words.Goals as goal

pub overflow_mul-result : goal.overflow_mul-result
unfolding largest_n largest_ceiling longest_check most_words most_wide
overflow_mul-result c = omega (arith, all_rows c.args.self.now, check_rows c.args.self.now)

pub returns-clause-more : goal.returns-clause-more
unfolding largest_ceiling longest_check most_wide
returns-clause-more c = check_rows c.args.self.now
