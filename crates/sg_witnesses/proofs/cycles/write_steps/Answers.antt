use Rattle.std.proofs.Common.{◌≡◌, ◌<◌, ◌≤◌, ap, sym, get_or, length, arith}
use Rattle.sg_reasons.specs.declared.why.Cause.TheVariants.{ByEquation}
use Rattle.sg_reasons.specs.declared.why.Step.{Step}
use Rattle.sg_witnesses.proofs.Told.{step_written, steps_written}
use Rattle.sg_witnesses.proofs.cycles.write_steps.Goals as goal

pub loop-step-preserved : goal.loop-step-preserved
loop-step-preserved c =
    let ss = c.args.way.now.steps in
    let i = c.loop-step.step-index in
    let d : Step = record { to = 0; cause = ByEquation 0 } in
    let s : Step = get_or c.as_slice-step-items.result.now i d in
    let at : get_or ss i d ≡ s = ap (λ xs. get_or xs i d) (sym c.as_slice-step-items.ensures) in
    let inside : i < length ss = omega (arith, c.loop-step-test.true, ap length c.as_slice-step-items.ensures) in
    step_written c.args.spec.now c.args.op c.args.vertices.now c.loop-step.from i ss s d c.loop-step.out.items c.write_step.new.out.items _ inside at c.loop-step.invariant c.in_ok-write_step.ensures

pub returns : goal.returns
returns c =
    let ss = c.args.way.now.steps in
    let past : length ss ≤ c.loop-step.step-index = omega (arith, c.loop-step-test.false, ap length c.as_slice-step-items.ensures) in
    steps_written c.args.spec.now c.args.op c.args.vertices.now c.loop-step.from c.loop-step.step-index ss c.loop-step.out.items _ past c.loop-step.invariant
