use Rattle.std.proofs.Common.{◌≡◌, drop}
use Rattle.std.specs.Prelude.{max}
use Rattle.sg_kinds.specs.Visits.{greatest}
use Rattle.sg_plan_text.proofs.visits.greatest.Given as goal

abbrev pub invariant-loop-visit : goal.invariant-loop-visit
invariant-loop-visit l = max l.most (greatest (drop l.visit-index l.visits)) ≡ greatest l.visits
