use Rattle.sg_edits.proofs.clip.+front.Given as goal

abbrev pub decreases-front : goal.decreases-front
decreases-front l = l.count
