use Rattle.sg_sets.specs.Flags.{AreFlagged, Flows}
use Rattle.sg_sets.specs.Rows.{all_missing}
use Rattle.sg_sets.proofs.rows.Rows.flow.Given as goal

abbrev pub invariant-loop : goal.invariant-loop
invariant-loop l = record {
  flows : Flows l.links l.fn.self l.self;
  flagged : AreFlagged l.links l.self.rows l.was;
}

abbrev pub decreases-loop : goal.decreases-loop
decreases-loop l = all_missing l.self.rows
