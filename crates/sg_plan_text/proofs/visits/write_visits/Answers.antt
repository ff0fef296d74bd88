use Rattle.sg_plan_text.specs.Plan.{next_visit}
use Rattle.sg_plan_text.proofs.Bounds.{flat_step}
use Rattle.sg_plan_text.proofs.visits.write_visits.Goals as goal

pub loop-k-preserved : goal.loop-k-preserved
loop-k-preserved c =
    flat_step (next_visit c.args.phylum.now c.args.visits.now) c.loop-k.k _ _ _ c.loop-k.invariant c.in_ok-write_visit.ensures
