use Rattle.std.proofs.Common.{arith}
use Rattle.sg_states.proofs.Looking.{no_elements, some_elements}
use Rattle.sg_states.proofs.looks.elements_at.Goals as goal

pub returns-in-Some : goal.returns-in-Some
returns-in-Some c = λ root t u placed.
    some_elements c.args.terms.now c.facts.ensures root t u c.in-Some.spine c.elements_from.result _ placed.holds (c.in-Some.ensures.leads root t u placed) c.elements_from.ensures

pub returns-in-None : goal.returns-in-None
returns-in-None c = λ root t u placed. (let e = no_elements c.args.terms.now c.facts.ensures root t u (c.in-None.ensures.leads root t u placed) in omega (arith, e))
