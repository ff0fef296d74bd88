use Rattle.sg_samples.specs.Table.{AreKnown}
use Rattle.sg_samples.proofs.table.improve.Given as goal

abbrev pub invariant-loop-rule : goal.invariant-loop-rule
invariant-loop-rule l = AreKnown l.g l.samples.items
