use Rattle.meaning.specs.Limits.{largest_n, largest_ceiling}
use Rattle.decoder.specs.Rooms.{most_wide, most_words}
use Rattle.decoder.proofs.Wide.{all_rows}
use Rattle.decoder.proofs.rooms.answer.Goals as goal

pub room-requires-2-clause-enough : goal.room-requires-2-clause-enough
unfolding largest_n largest_ceiling most_words most_wide
room-requires-2-clause-enough c = all_rows c.args.w.now
