use Rattle.lanes.proofs.Constants.{lane_word_lem}
use Rattle.lanes.proofs.row.word.Goals as goal

pub returns : goal.returns
returns c = lane_word_lem _ _ _ _ c.common.ensures
