use Rattle.sg_load.proofs.NamesRead.{accepted_named, accepted_distinct}
use Rattle.sg_load.proofs.laws.accepted_names_are_right.Goals as goal

pub returns-clause-operators : goal.returns-clause-operators
returns-clause-operators c = accepted_named

pub returns-clause-distinct : goal.returns-clause-distinct
returns-clause-distinct c = accepted_distinct
