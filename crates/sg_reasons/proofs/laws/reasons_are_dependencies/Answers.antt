use Rattle.sg_reasons.proofs.Dependencies.{reason_related, cause_related}
use Rattle.sg_reasons.proofs.laws.reasons_are_dependencies.Goals as goal

pub returns-clause-phylum : goal.returns-clause-phylum
returns-clause-phylum c = λ rules reasons range are r in'. reason_related rules reasons range are r in'

pub returns-clause-operator : goal.returns-clause-operator
returns-clause-operator c = λ rules layer reasons range layers are low p m n why is. cause_related rules layer reasons range layers are low p m n why is
