use Rattle.sg_forest.specs.Trees.{room_below}
use Rattle.sg_trail.proofs.Saving.{IsSavingKids}
use Rattle.sg_trail.proofs.saved.+save_tree.Given as goal

abbrev pub decreases-save_tree : goal.decreases-save_tree
decreases-save_tree l = room_below l.terms.now.trees l.n

abbrev pub invariant-loop-k : goal.invariant-loop-k
invariant-loop-k l = IsSavingKids l.terms l.fn.entries.items l.entries.items l.n l.k
