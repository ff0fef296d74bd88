use Rattle.sg_samples.specs.Table.{AreKnown}
use Rattle.sg_samples.proofs.table.table.Given as goal

abbrev pub invariant-rounds : goal.invariant-rounds
invariant-rounds l = AreKnown l.g l.samples.items
