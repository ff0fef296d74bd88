use Rattle.std.proofs.Common.{◌≡◌, ◌++◌}
use Rattle.std.specs.Prelude.{flat_map}
use Rattle.sg_kinds.specs.Instances.{below}
use Rattle.sg_plan_text.specs.Plan.{next_visit}
use Rattle.sg_plan_text.proofs.visits.write_visits.Given as goal

abbrev pub invariant-loop-k : goal.invariant-loop-k
invariant-loop-k l = l.out.items ≡ l.initial.out.items ++ flat_map (next_visit l.phylum l.visits) (below l.k)
