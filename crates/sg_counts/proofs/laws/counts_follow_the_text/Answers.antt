use Rattle.sg_counts.proofs.Along.{arities_along, attributes_along, locals_along, parameters_along, schemes_along, symbols_along, views_along}
use Rattle.sg_counts.proofs.laws.counts_follow_the_text.Goals as goal

pub returns-clause-arities : goal.returns-clause-arities
returns-clause-arities c = arities_along

pub returns-clause-attributes : goal.returns-clause-attributes
returns-clause-attributes c = attributes_along

pub returns-clause-locals : goal.returns-clause-locals
returns-clause-locals c = locals_along

pub returns-clause-parameters : goal.returns-clause-parameters
returns-clause-parameters c = parameters_along

pub returns-clause-schemes : goal.returns-clause-schemes
returns-clause-schemes c = schemes_along

pub returns-clause-symbols : goal.returns-clause-symbols
returns-clause-symbols c = symbols_along

pub returns-clause-views : goal.returns-clause-views
returns-clause-views c = views_along
