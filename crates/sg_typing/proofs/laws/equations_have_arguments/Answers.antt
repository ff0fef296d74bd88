use Rattle.sg_typing.proofs.TableFacts.{equation_outside}
use Rattle.sg_typing.proofs.laws.equations_have_arguments.Goals as goal

pub returns : goal.returns
returns c = equation_outside
