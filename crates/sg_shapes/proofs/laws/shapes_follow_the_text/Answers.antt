use Rattle.sg_shapes.proofs.Order.{roots_in, lists_in, optionals_in, phyla_ordered, nonterminals_ordered}
use Rattle.sg_shapes.proofs.laws.shapes_follow_the_text.Goals as goal

pub returns-clause-roots : goal.returns-clause-roots
returns-clause-roots c = roots_in

pub returns-clause-lists : goal.returns-clause-lists
returns-clause-lists c = lists_in

pub returns-clause-optionals : goal.returns-clause-optionals
returns-clause-optionals c = optionals_in

pub returns-clause-phyla : goal.returns-clause-phyla
returns-clause-phyla c = phyla_ordered

pub returns-clause-nonterminals : goal.returns-clause-nonterminals
returns-clause-nonterminals c = nonterminals_ordered
