use native.Mathlib.Omega.{arith}
use Rattle.meaning.specs.Limits.{largest_n, largest_ceiling}
use Rattle.system.specs.Solving.{longest_check}
use Rattle.strips.specs.Rooms.{most_wide, most_words}
use Rattle.strips.proofs.Wide.{all_rows, fewer_rows}
use Rattle.strips.proofs.strip.Strip.record_words.Goals as goal

pub overflow_mul-result : goal.overflow_mul-result
unfolding largest_n largest_ceiling longest_check most_words most_wide
overflow_mul-result c = omega (arith, all_rows c.args.self.now, fewer_rows c.args.self.now)
