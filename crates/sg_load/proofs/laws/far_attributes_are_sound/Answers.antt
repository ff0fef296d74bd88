use Rattle.sg_load.proofs.SoundSpec.{shapes, far}
use Rattle.sg_load.proofs.laws.far_attributes_are_sound.Goals as goal

pub returns-clause-shapes : goal.returns-clause-shapes
returns-clause-shapes c = shapes

pub returns-clause-far : goal.returns-clause-far
returns-clause-far c = far
