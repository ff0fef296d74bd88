use Rattle.sg_ast.specs.Reading.{attr}
use Rattle.sg_clauses.proofs.attributes.attrs.Given as goal

abbrev pub ghost-repeated : goal.ghost-repeated
ghost-repeated a = attr
