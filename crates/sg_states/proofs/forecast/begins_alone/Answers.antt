use Rattle.std.specs.Prelude.{◌≡◌, ◌<◌, Some}
use Rattle.sg_unparse.specs.Begins.{begins_on}
use Rattle.sg_states.specs.Beginnings.{BeginsAlone}
use Rattle.sg_states.proofs.Foretold.{begun_alone, if_some}
use Rattle.sg_states.proofs.forecast.begins_alone.Goals as goal

pub returns : goal.returns
returns c = λ root t x p v whole way to at.
    let page = c.in_ok-page.page in
    if_some (λ b. (begins_on page c.args.n ≡ Some b) × (b.cells < 1048576)) (BeginsAlone c.args.terms.now.spec c.args.terms.now.view t p x v) c.within_page.result
    (λ b h. begun_alone c.args.terms.now c.facts.ensures root t whole p v x c.args.above c.args.n page b way to at c.in_ok-page.ensures h.0 h.1) c.within_page.ensures
