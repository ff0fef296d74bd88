use Rattle.sg_ast.specs.Reading.{local}
use Rattle.sg_clauses.proofs.typed.locals.Given as goal

abbrev pub ghost-repeated : goal.ghost-repeated
ghost-repeated a = local
