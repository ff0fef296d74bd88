use Rattle.sg_trail.proofs.Back.{IsGoingBack}
use Rattle.sg_trail.proofs.trail.store_back.Given as goal

abbrev pub invariant-loop-entry : goal.invariant-loop-entry
invariant-loop-entry l = IsGoingBack l.initial.terms l.terms l.initial.rest.items l.rest.items

abbrev pub decreases-loop-entry : goal.decreases-loop-entry
decreases-loop-entry l = goal.left-loop-entry l
