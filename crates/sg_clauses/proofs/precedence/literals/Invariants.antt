use Rattle.sg_ast.specs.Readers.{quoted}
use Rattle.sg_clauses.proofs.precedence.literals.Given as goal

abbrev pub ghost-repeated : goal.ghost-repeated
ghost-repeated a = quoted
