use Rattle.std.proofs.Common.{subst}
use Rattle.sg_reasons.specs.Reasons.{Way, AreSteps}
use Rattle.sg_reasons.proofs.checking.is_reason.Goals as goal

pub returns-in-Some : goal.returns-in-Some
returns-in-Some c = λ yes.
    let is = c.is_between.ensures yes in
    let r = c.args.reason.now in
    let rules = c.args.scene.now.rules.now in
    let known = c.args.known.now in
    let along = subst (λ (w : Way). AreSteps rules known.reasons.now known.low c.operator_of-op.result w.from w.steps c.in-Some.last) c.way_of-way.ensures c.in-Some.ensures in
    record {
      last = c.in-Some.last;
      placed = is.placed;
      steps = subst (λ p. AreSteps rules known.reasons.now known.low p r.way.from r.way.steps c.in-Some.last) c.operator_of-op.ensures along;
      some = is.some;
      induced = is.induced;
    }
