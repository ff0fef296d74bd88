use Rattle.std.proofs.Common.{ap}
use Rattle.std.specs.Prelude.{slice_index}
use Rattle.sg_sets.specs.Rows.{Holds}
use Rattle.sg_sets.proofs.BeforeLemmas.{Path-below}
use Rattle.sg_sets.proofs.CyclesLemmas.{HasNoCycle-from_paths, StartsLeast-from_paths}
use Rattle.sg_sets.proofs.relation.Relation.cycle.Goals as goal

pub returns-in_default-clause-none : goal.returns-in_default-clause-none
returns-in_default-clause-none c = HasNoCycle-from_paths (Holds c.args.self.now) (rw c.in_default.is at c.in_ok-start.ensures.none)

pub returns-clause-start : goal.returns-clause-start
returns-clause-start c =
    let least = rw c.in-Some.is at c.in_ok-start.ensures.least in
    let way = c.in_ok-cycle.ensures in
    StartsLeast-from_paths (Holds c.args.self.now) c.in_ok-cycle.cycle.items c.in-Some.start (ap (λ l. slice_index l 0) way.1) least

pub layers-requires-clause-goal : goal.layers-requires-clause-goal
layers-requires-clause-goal c = Path-below c.args.self.now c.in-Some.start c.in-Some.start (rw c.in-Some.is at c.in_ok-start.ensures.cycle)
