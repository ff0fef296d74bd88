use Rattle.sg_reasons.proofs.Causes.{frame_found}
use Rattle.sg_reasons.proofs.scene.frame_at.Goals as goal

pub returns-in-Some : goal.returns-in-Some
returns-in-Some c = frame_found c.args.scene.now.rules.now c.args.scene.now.frames.now c.args.op c.in-Some.frame.now c.requires c.in-Some.ensures
