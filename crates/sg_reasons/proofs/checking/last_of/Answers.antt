use Rattle.std.proofs.Common.{◌≤◌, ap, length, arith}
use Rattle.sg_reasons.proofs.Steps.{steps_more, steps_end}
use Rattle.sg_reasons.proofs.checking.last_of.Goals as goal

pub loop-step-init : goal.loop-step-init
loop-step-init c = λ n steps. steps

pub loop-step-preserved : goal.loop-step-preserved
loop-step-preserved c = λ n rest. c.loop-step.invariant n
    (steps_more c.args.scene.now.rules.now c.args.known.now.reasons.now c.args.known.now.low c.args.op c.loop-step.from c.loop-step.step-index c.args.way.now.steps c.as_slice-step-items.result.now _
    c.as_slice-step-items.ensures c.loop-step-test.true (c.is_cause.ensures c.if-is_cause.true) n rest)

pub returns : goal.returns
returns c =
    let ss = c.args.way.now.steps in
    let past : length ss ≤ c.loop-step.step-index = omega (arith, c.loop-step-test.false, ap length c.as_slice-step-items.ensures) in
    c.loop-step.invariant c.loop-step.from (steps_end c.args.scene.now.rules.now c.args.known.now.reasons.now c.args.known.now.low c.args.op c.loop-step.from c.loop-step.step-index ss past)
