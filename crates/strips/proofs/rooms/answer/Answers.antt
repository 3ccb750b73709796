use Rattle.meaning.specs.Limits.{largest_n, largest_ceiling}
use Rattle.system.specs.Solving.{longest_check}
use Rattle.strips.specs.Rooms.{most_wide, most_words}
use Rattle.strips.proofs.Wide.{all_rows}
use Rattle.strips.proofs.rooms.answer.Goals as goal

pub room-requires-2-clause-enough : goal.room-requires-2-clause-enough
unfolding largest_n largest_ceiling longest_check most_words most_wide
room-requires-2-clause-enough c = all_rows c.args.s.now
