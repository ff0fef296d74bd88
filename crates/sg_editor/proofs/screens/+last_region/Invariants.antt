use Rattle.sg_editor.proofs.screens.+last_region.Given as goal

abbrev pub decreases-last_region : goal.decreases-last_region
decreases-last_region l = l.count
