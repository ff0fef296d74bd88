use Rattle.std.specs.Prelude.{◌≡◌, ◌<◌, Some}
use Rattle.sg_unparse.specs.Begins.{begins_on}
use Rattle.sg_states.specs.Beginnings.{Begins}
use Rattle.sg_states.proofs.Foretold.{begun_here, if_some}
use Rattle.sg_states.proofs.forecast.begins_here.Goals as goal

pub returns : goal.returns
returns c = λ root t u whole way page.
    if_some (λ b. (begins_on c.args.page.now c.args.n ≡ Some b) × (b.cells < 1048576)) (Begins c.args.terms.now.spec c.args.terms.now.view t u) c.within_page.result
    (λ b h. begun_here c.args.terms.now c.facts.ensures root t whole u c.args.n c.args.page.now b way page h.0 h.1) c.within_page.ensures
