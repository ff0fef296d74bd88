use Rattle.sg_ast.specs.Readers.{string}
use Rattle.sg_clauses.proofs.schemes.separator.Given as goal

abbrev pub ghost-repeated : goal.ghost-repeated
ghost-repeated a = string
