use Rattle.sg_load.proofs.NamesRead.{read_named}
use Rattle.sg_load.proofs.laws.read_operators_have_names.Goals as goal

pub returns : goal.returns
returns c = read_named
