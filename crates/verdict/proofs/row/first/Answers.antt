use Rattle.verdict.proofs.AtRow.{first-is}
use Rattle.verdict.proofs.row.first.Goals as goal

pub returns : goal.returns
returns c = first-is c.args.c c.args.x.now
