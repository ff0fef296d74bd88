use Rattle.sg_remote.proofs.Borne.{bears_only, bears_all, open_only, open_all}
use Rattle.sg_remote.proofs.laws.reached_is_least.Goals as goal

pub returns-clause-bears : goal.returns-clause-bears
returns-clause-bears c = bears_only

pub returns-clause-all_bear : goal.returns-clause-all_bear
returns-clause-all_bear c = bears_all

pub returns-clause-opens : goal.returns-clause-opens
returns-clause-opens c = open_only

pub returns-clause-all_open : goal.returns-clause-all_open
returns-clause-all_open c = open_all
