use Rattle.sg_ast.specs.Reading.{alt, other}
use Rattle.sg_clauses.proofs.operators.alts.Given as goal

abbrev pub ghost-repeated : goal.ghost-repeated
ghost-repeated a = other alt
