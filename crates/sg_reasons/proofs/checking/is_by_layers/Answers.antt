use Rattle.sg_reasons.proofs.Causes.{layers_by}
use Rattle.sg_reasons.proofs.checking.is_by_layers.Goals as goal

pub returns-in-Some : goal.returns-in-Some
returns-in-Some c = λ yes. layers_by c.args.scene.now.rules.now c.args.known.now.layers.now c.args.edge.op c.args.edge.from c.args.edge.to c.args.at c.args.a c.args.b c.in-Some.spot c.requires.layers c.in-Some.ensures (c.are_later.ensures yes)
