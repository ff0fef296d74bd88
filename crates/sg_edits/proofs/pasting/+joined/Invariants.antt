use Rattle.sg_kinds.specs.Terms.{height_of}
use Rattle.sg_edits.proofs.pasting.+joined.Given as goal

abbrev pub decreases-joined : goal.decreases-joined
decreases-joined l = height_of l.list.now
