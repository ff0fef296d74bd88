use Rattle.sg_ast.specs.Reading.{scheme}
use Rattle.sg_clauses.proofs.schemes.schemes_behind.Given as goal

abbrev pub ghost-repeated : goal.ghost-repeated
ghost-repeated a = scheme
