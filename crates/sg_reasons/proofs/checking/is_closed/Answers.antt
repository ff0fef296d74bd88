use Rattle.std.proofs.Common.{◌∙◌, subst}
use Rattle.std.proofs.lemmas.Bool.{eqb-true}
use Rattle.sg_reasons.specs.Reasons.{AreSteps}
use Rattle.sg_reasons.proofs.checking.is_closed.Goals as goal

pub returns-in-Some : goal.returns-in-Some
returns-in-Some c = λ yes.
    let w = c.args.way.now in
    let known = c.args.known.now in
    subst (λ n. AreSteps c.args.scene.now.rules.now known.reasons.now known.low c.args.op w.from w.steps n) (eqb-true c.in-Some.last c.start_of.result yes ∙ c.start_of.ensures) c.in-Some.ensures
