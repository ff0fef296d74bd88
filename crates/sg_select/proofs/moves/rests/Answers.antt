use Rattle.sg_groves.specs.Grove.{spec_shown}
use Rattle.sg_select.specs.RestingPlaces.{rests}
use Rattle.sg_select.proofs.Settling.{itself_rests, same_tests, tested}
use Rattle.sg_select.proofs.moves.rests.Goals as goal

pub returns : goal.returns
returns c = λ root t u placed.
    let g = c.args.terms.now in
    let itself = itself_rests g c.facts.ensures root c.args.n c.settle.result t u placed (c.settle.ensures.settled root t u placed) in
    let same = tested c.settle.result c.args.n c.eq.result c.eq.ensures in
    same_tests c.eq.result (rests (spec_shown g) t u) ((λ on. itself.0 (same.1 on)), (λ rest. same.0 (itself.1 rest)))
