use Rattle.sg_reasons.proofs.Causes.{stand_are}
use Rattle.sg_reasons.proofs.checking.is_placed.Goals as goal

pub returns-in-Some : goal.returns-in-Some
returns-in-Some c = λ yes.
    let is = c.is_of.ensures yes in
    let r = c.args.reason.now in
    stand_are c.args.scene.now.rules.now c.args.edge.op c.args.at r.phylum r.from r.to c.args.edge.from c.args.edge.to c.in-Some.spot c.in-Some.ensures is.phylum is.stand
