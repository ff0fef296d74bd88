use Rattle.std.specs.Prelude.{◌≡◌, take, map}
use Rattle.sg_orders.specs.VisitRows.{visits_by}
use Rattle.sg_orders.proofs.visits.all_visits.Given as goal

abbrev pub invariant-loop-row : goal.invariant-loop-row
invariant-loop-row l = l.all.items ≡ map visits_by (take l.row-index l.layers)
