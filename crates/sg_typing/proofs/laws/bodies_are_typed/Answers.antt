use Rattle.sg_typing.proofs.BodyTyped.{body_kept}
use Rattle.sg_typing.proofs.laws.bodies_are_typed.Goals as goal

pub returns : goal.returns
returns c = body_kept
