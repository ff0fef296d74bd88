use Rattle.sg_shapes.proofs.Finished.{all_finite, all_finished, not_finite, finite_before, has_operators}
use Rattle.sg_shapes.proofs.laws.finished_phyla_are_finite.Goals as goal

pub returns-clause-finite : goal.returns-clause-finite
returns-clause-finite c = all_finite

pub returns-clause-only : goal.returns-clause-only
returns-clause-only c = all_finished

pub returns-clause-found : goal.returns-clause-found
returns-clause-found c = not_finite

pub returns-clause-first : goal.returns-clause-first
returns-clause-first c = finite_before

pub returns-clause-operators : goal.returns-clause-operators
returns-clause-operators c = has_operators
