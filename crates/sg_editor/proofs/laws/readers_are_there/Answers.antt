use Rattle.sg_editor.proofs.Telling.{readers_there}
use Rattle.sg_editor.proofs.laws.readers_are_there.Goals as goal

pub returns : goal.returns
returns c = readers_there
