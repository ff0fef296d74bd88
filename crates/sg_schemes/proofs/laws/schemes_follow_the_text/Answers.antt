use Rattle.sg_schemes.proofs.Order.{operators_ordered, schemes_ordered, strings_ordered}
use Rattle.sg_schemes.proofs.Spots.{by_scheme, by_string}
use Rattle.sg_schemes.proofs.laws.schemes_follow_the_text.Goals as goal

pub returns-clause-operators : goal.returns-clause-operators
returns-clause-operators c = operators_ordered

pub returns-clause-schemes : goal.returns-clause-schemes
returns-clause-schemes c = schemes_ordered

pub returns-clause-strings : goal.returns-clause-strings
returns-clause-strings c = strings_ordered

pub returns-clause-by_scheme : goal.returns-clause-by_scheme
returns-clause-by_scheme c = by_scheme

pub returns-clause-by_string : goal.returns-clause-by_string
returns-clause-by_string c = by_string
