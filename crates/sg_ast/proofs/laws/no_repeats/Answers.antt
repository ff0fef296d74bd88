use Rattle.sg_ast.proofs.FirstLaws.{first_repeat-none}
use Rattle.sg_ast.proofs.laws.no_repeats.Goals as goal

pub returns : goal.returns
returns g c = first_repeat-none
