use Rattle.sg_states.proofs.Looking.{path_copied, path_climbed}
use Rattle.sg_states.proofs.looks.path_at.Goals as goal

pub returns-then-is_there : goal.returns-then-is_there
returns-then-is_there c = λ root t u placed there.
    path_copied c.args.terms.now c.facts.ensures root t c.args.path.now c.args.n u c.copy.result c.copy.ensures placed (there c.if-is_there.true)

pub returns-else-is_there : goal.returns-else-is_there
returns-else-is_there c = λ root t u placed there.
    path_climbed c.args.terms.now c.facts.ensures root t c.args.n u c.path_of.result c.path_of.ensures placed
