use Rattle.sg_patterns.proofs.Deciding.{decide-from, decide-matches}
use Rattle.sg_patterns.proofs.laws.matching_is_decided.Goals as goal

pub returns-clause-whole : goal.returns-clause-whole
returns-clause-whole c = decide-matches

pub returns-clause-part : goal.returns-clause-part
returns-clause-part c = decide-from
