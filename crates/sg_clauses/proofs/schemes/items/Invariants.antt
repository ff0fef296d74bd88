use Rattle.sg_ast.specs.Reading.{item_of}
use Rattle.sg_clauses.proofs.schemes.items.Given as goal

abbrev pub ghost-repeated : goal.ghost-repeated
ghost-repeated a = item_of
