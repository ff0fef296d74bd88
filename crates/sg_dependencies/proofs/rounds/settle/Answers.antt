use Rattle.sg_dependencies.proofs.Closed.{joined_by_paths}
use Rattle.sg_dependencies.proofs.rounds.settle.Goals as goal

pub returns-clause-joins : goal.returns-clause-joins
returns-clause-joins c =
    joined_by_paths c.args.spots.now c.spread_all.new.relation c.in_ok-closed.closed c.close.new.self c.args.phyla.now c.gather_all.new.phyla c.in_ok-closed.ensures
    (record { contains = c.close.ensures.contains; transitive = c.close.ensures.transitive; least = c.close.ensures.least }) c.gather_all.ensures.gathers
