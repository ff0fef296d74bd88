use Rattle.std.proofs.lemmas.Option.{IfSome_then}
use Rattle.sg_reasons.proofs.Causes.{spot_found}
use Rattle.sg_reasons.proofs.scene.spot_at.Goals as goal

pub returns-in-Some : goal.returns-in-Some
returns-in-Some c = IfSome_then c.spot_in.result c.spot_in.ensures (λ s is. spot_found c.args.scene.now.rules.now c.args.op c.args.at c.in-Some.frame.now s c.in-Some.ensures is)
