use Rattle.std.proofs.Common.{subst}
use Rattle.sg_reasons.specs.Reasons.{Way, AreReasons, AreSteps}
use Rattle.sg_reasons.proofs.checking.is_path.Goals as goal

pub returns-then-is_closed : goal.returns-then-is_closed
returns-then-is_closed c = λ yes.
    let rules = c.args.scene.now.rules.now in
    let w = c.args.path.now in
    let along = subst (λ (v : Way). AreSteps rules c.reasons_of-reasons.result.now 0 c.place_of-op.result v.from v.steps v.from) c.cycle_of-cycle.ensures (c.is_closed.ensures c.if-is_closed.true) in
    let of = subst (λ p. AreSteps rules c.reasons_of-reasons.result.now 0 p w.cycle.from w.cycle.steps w.cycle.from) c.place_of-op.ensures along in
    record {
      steps = subst (λ rs. AreSteps rules rs 0 w.op w.cycle.from w.cycle.steps w.cycle.from) c.reasons_of-reasons.ensures of;
      reasons = subst (AreReasons rules) c.reasons_of-reasons.ensures (c.are_reasons.ensures yes);
    }
