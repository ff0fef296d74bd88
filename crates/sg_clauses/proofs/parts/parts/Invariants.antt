use Rattle.sg_ast.specs.Reading.{part_of}
use Rattle.sg_clauses.proofs.parts.parts.Given as goal

abbrev pub ghost-repeated : goal.ghost-repeated
ghost-repeated a = part_of
