use Rattle.sg_ast.specs.ReadingNames.{another}
use Rattle.sg_ast.specs.Reading.{param}
use Rattle.sg_clauses.proofs.typed.some_params.Given as goal

abbrev pub ghost-repeated : goal.ghost-repeated
ghost-repeated a = another param
