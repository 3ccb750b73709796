use Rattle.counting.proofs.+block.Given as goal

abbrev pub decreases-block : goal.decreases-block
decreases-block l = l.k
