use Rattle.sg_editor.proofs.Naming.{are_named}
use Rattle.sg_editor.proofs.laws.accepted_operators_are_named.Goals as goal

pub returns : goal.returns
returns c = are_named
