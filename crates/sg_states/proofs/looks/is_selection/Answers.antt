use Rattle.std.proofs.Common.{◌≤◌, arith}
use Rattle.sg_states.proofs.Looking.{run_told}
use Rattle.sg_states.proofs.looks.is_selection.Goals as goal

pub returns-then-count-gt1 : goal.returns-then-count-gt1
returns-then-count-gt1 c = λ root t u placed rest.
    let few : c.args.count ≤ 18446744073709551615 = omega arith in
    run_told c.args.terms.now.spec c.args.terms.now.view t u c.args.count c.elements_at.result 18446744073709551615 rest c.if-count-gt1.true few (c.elements_at.ensures root t u placed)
