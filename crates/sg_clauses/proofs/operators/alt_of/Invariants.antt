use Rattle.sg_ast.specs.Readers.{name}
use Rattle.sg_clauses.proofs.operators.alt_of.Given as goal

abbrev pub ghost-repeated : goal.ghost-repeated
ghost-repeated a = name
