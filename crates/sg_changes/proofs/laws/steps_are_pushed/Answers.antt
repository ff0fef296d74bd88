use Rattle.sg_changes.specs.declared.direction.Direction.TheVariants.{Forth}
use Rattle.sg_changes.specs.Chain.{Passes}
use Rattle.sg_changes.proofs.Chained.{go_chains}
use Rattle.sg_changes.proofs.Telling.{put_pushed, mark_pushed}
use Rattle.sg_changes.proofs.laws.steps_are_pushed.Goals as goal

pub returns-clause-put : goal.returns-clause-put
returns-clause-put c = λ old new t s y path x before after past at holds agree. put_pushed old new t s y path x before after past at holds agree

pub returns-clause-mark : goal.returns-clause-mark
returns-clause-mark c = λ old new t path was made before after past at agree. mark_pushed old new t path was made before after past at agree

pub returns-clause-undoes : goal.returns-clause-undoes
returns-clause-undoes c = λ spec spot t c cs small can all. go_chains spec (Passes spot) Forth t c cs small can all
