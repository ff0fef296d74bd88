use Rattle.sg_groves.proofs.Held.{part_held, node_held}
use Rattle.sg_groves.proofs.laws.subterms_are_held.Goals as goal

pub returns-clause-subterm : goal.returns-clause-subterm
returns-clause-subterm c = λ g is u n m t climbs holds. part_held g is u n m t climbs holds

pub returns-clause-node : goal.returns-clause-node
returns-clause-node c = λ g is u m t s holds at. node_held g is u m t s holds at
