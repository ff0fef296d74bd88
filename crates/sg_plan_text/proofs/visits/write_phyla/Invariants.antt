use Rattle.std.proofs.Common.{◌≡◌, ◌++◌, drop}
use Rattle.sg_useless.specs.Uses.{numbered}
use Rattle.sg_plan_text.specs.Plan.{phylum_text}
use Rattle.sg_plan_text.proofs.visits.write_phyla.Given as goal

abbrev pub invariant-loop-p : goal.invariant-loop-p
invariant-loop-p l = l.out.items ++ numbered (phylum_text l.plans) l.p (drop l.p l.phyla) ≡ l.initial.out.items ++ numbered (phylum_text l.plans) 0 l.phyla
