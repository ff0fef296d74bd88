use Rattle.std.proofs.Common.{arith}
use Rattle.std.proofs.lemmas.Grind.{common_steps}
use Rattle.sg_counts.proofs.Seen.{more_counts}
use Rattle.sg_counts.proofs.crowds.crowd.Goals as goal

pub loop-key-preserved : goal.loop-key-preserved
loop-key-preserved g c = record {
  counts = λ q.
      let at_key = c.loop-key.invariant.counts c.key-item.result in
      let at_q = c.loop-key.invariant.counts q in
      more_counts g.met.K.Ord.total c.args.keys.now c.loop-key.key-index c.key-item.result q c.unwrap_or-before.result _ _ (omega arith) c.key-item.is (grind (arith, common_steps, at_key)) at_q (c.in_ok-insert.ensures.updates.0 q);
  so_far = grind (arith, common_steps);
}
