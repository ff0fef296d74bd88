use Rattle.sg_forest.proofs.Paths.{parent_is_live}
use Rattle.sg_groves.specs.Grove.{nodes}
use Rattle.sg_select.proofs.Fronts.{above_rest, no_rest, rest_at_top}
use Rattle.sg_select.proofs.paths.ancestor.Goals as goal

pub loop-step-preserved : goal.loop-step-preserved
loop-step-preserved c =
    let g = c.args.terms.now in
    let child = c.in-Some.ensures.child in
    record {
      live = parent_is_live (nodes g) c.facts.ensures.forest.linked c.loop-step.at c.in-Some.above c.in-Some.field-0-1 child;
      placed = λ root t low u placed long.
          above_rest g c.facts.ensures root t u c.loop-step.at c.in-Some.above c.in-Some.field-0-1 c.args.steps c.loop-step._step c.loop-step-test.true child
          (c.loop-step.invariant.placed root t low u placed long);
    }

pub returns-in-None-clause-placed : goal.returns-in-None-clause-placed
returns-in-None-clause-placed c = λ root t low u placed long.
    absurd (rest_at_top c.args.terms.now c.facts.ensures root t u c.loop-step.at c.args.steps c.loop-step._step c.loop-step-test.true (c.parent.ensures.root.0 c.in-None.is)
    (c.loop-step.invariant.placed root t low u placed long))

pub returns-clause-placed : goal.returns-clause-placed
returns-clause-placed c = λ root t low u placed long.
    no_rest c.args.terms.now c.facts.ensures root t u c.loop-step.at c.args.steps c.loop-step._step c.loop-step-test.false
    (c.loop-step.invariant.placed root t low u placed long)
