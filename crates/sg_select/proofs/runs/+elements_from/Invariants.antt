use Rattle.sg_forest.specs.Trees.{room_below}
use Rattle.sg_select.proofs.runs.+elements_from.Given as goal

abbrev pub decreases-elements_from : goal.decreases-elements_from
decreases-elements_from l = room_below l.terms.now.trees l.n
