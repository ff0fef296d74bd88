use Rattle.sg_ast.proofs.Exact.{reading_spells}
use Rattle.sg_ast.proofs.laws.reading_is_exact.Goals as goal

pub returns-clause-spells : goal.returns-clause-spells
returns-clause-spells c = λ ms d e. reading_spells ms d e
