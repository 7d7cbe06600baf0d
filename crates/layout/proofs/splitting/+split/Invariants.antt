use Rattle.layout.proofs.splitting.+split.Given as goal

abbrev pub decreases-split : goal.decreases-split
decreases-split g l = l.part.room
