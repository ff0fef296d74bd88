use Rattle.std.specs.Prelude.{IsTrue}
use Rattle.sg_groves.proofs.Frames.{only_climbs, only_holds, only_number, only_value, only_right}
use Rattle.sg_groves.proofs.laws.all_else_stays.Goals as goal

pub returns-clause-ways : goal.returns-clause-ways
returns-clause-ways c = λ old new test only u n m climbs. only_climbs old new (λ n slot. IsTrue (test n slot)) only u n m climbs

pub returns-clause-terms : goal.returns-clause-terms
returns-clause-terms c = λ old new test only is n t holds. only_holds old new (λ n slot. IsTrue (test n slot)) only is n t holds

pub returns-clause-numbers : goal.returns-clause-numbers
returns-clause-numbers c = λ old new test only n slot out. only_number old new (λ n slot. IsTrue (test n slot)) only n slot out

pub returns-clause-values : goal.returns-clause-values
returns-clause-values c = λ old new test only is n slot out. only_value old new (λ n slot. IsTrue (test n slot)) only is n slot out

pub returns-clause-right : goal.returns-clause-right
returns-clause-right c = λ old new test only is n right out. only_right old new (λ n slot. IsTrue (test n slot)) only is n right out
