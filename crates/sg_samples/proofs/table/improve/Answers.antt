use Rattle.std.proofs.Common.{sym, subst}
use Rattle.sg_samples.specs.Table.{AreKnown, IsKnown}
use Rattle.sg_samples.proofs.Known.{known_more}
use Rattle.sg_samples.proofs.table.improve.Goals as goal
use Rattle.sg_samples.proofs.table.improve.Goals.{then-not-is_settled+in_ok-sample, else-not-is_settled}

pub loop-rule-preserved : goal.loop-rule-preserved
loop-rule-preserved c = elim c.if-not-is_settled.branch [
  | then-not-is_settled+in_ok-sample w ↦ rw w.samples-is (subst (AreKnown c.args.g.now) (sym w.put_at.ensures)
      (known_more c.args.g.now c.sound.ensures c.loop-rule.samples.items c.rules-rule-items.result.now c.loop-rule.rule-index c.rule-item.result w.in_ok-sample.sample c.rules-rule-items.ensures c.loop-rule-test.true c.rule-item.is c.loop-rule.invariant (subst (λ Xs. IsKnown c.args.g.now Xs w.in_ok-sample.sample) w.as_slice.ensures (w.in_ok-sample.ensures c.args.g.now (subst (AreKnown c.args.g.now) (sym w.deref-then-not-is_settled.ensures.value) c.loop-rule.invariant)))))
  | else-not-is_settled w ↦ rw w.samples-is c.loop-rule.invariant
]
