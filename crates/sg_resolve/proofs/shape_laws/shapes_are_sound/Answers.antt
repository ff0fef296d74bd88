use Rattle.sg_resolve.proofs.ShapesSound.{shapes_sound}
use Rattle.sg_resolve.proofs.shape_laws.shapes_are_sound.Goals as goal

pub returns : goal.returns
returns c = shapes_sound
