use Rattle.sg_samples.proofs.Listing.{IsListed}
use Rattle.sg_samples.proofs.samples.barren.Given as goal

abbrev pub invariant-loop-x : goal.invariant-loop-x
invariant-loop-x l = IsListed l.samples.items l.x l.barren.items
