use Rattle.descent.proofs.block.+decode.Given as goal

abbrev pub decreases-decode : goal.decreases-decode
decreases-decode l = l.k
