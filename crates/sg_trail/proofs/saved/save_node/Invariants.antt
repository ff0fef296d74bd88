use Rattle.sg_trail.proofs.Saving.{IsSavingNode}
use Rattle.sg_trail.proofs.saved.save_node.Given as goal

abbrev pub invariant-loop-k : goal.invariant-loop-k
invariant-loop-k l = IsSavingNode l.terms l.initial.entries.items l.entries.items l.n l.k
