use Rattle.sg_names.proofs.DraftedLaws.{usable_kept, accepted_kept, bound_kept, type_kept}
use Rattle.sg_names.proofs.laws.types_are_kept.Goals as goal

pub returns-clause-usable : goal.returns-clause-usable
returns-clause-usable c = usable_kept

pub returns-clause-accepted : goal.returns-clause-accepted
returns-clause-accepted c = accepted_kept

pub returns-clause-bound : goal.returns-clause-bound
returns-clause-bound c = bound_kept

pub returns-clause-expr : goal.returns-clause-expr
returns-clause-expr c = type_kept
