use Rattle.sg_changes.specs.Chain.{Passes}
use Rattle.sg_changes.proofs.Telling.{told_ahead, told_behind, goes_ahead, goes_behind}
use Rattle.sg_changes.proofs.laws.steps_go.Goals as goal

pub returns-clause-ahead : goal.returns-clause-ahead
returns-clause-ahead c = λ d old new t s x ahead behind turn. told_ahead old new d t s x ahead behind turn

pub returns-clause-behind : goal.returns-clause-behind
returns-clause-behind c = λ d old new t s x ahead behind at turn. told_behind old new d t s x ahead behind turn at

pub returns-clause-on : goal.returns-clause-on
returns-clause-on c = λ d spec spot old new t s x ahead behind all turn. goes_ahead old new d t s x ahead behind turn spec (Passes spot) all

pub returns-clause-back : goal.returns-clause-back
returns-clause-back c = λ d spec spot old new t s x ahead behind small all on turn. goes_behind old new d t s x ahead behind turn spec (Passes spot) all small on
