use Rattle.sg_glosses.proofs.Keeping.{region_there, start_keeps, step_keeps}
use Rattle.sg_glosses.proofs.laws.selected_nodes_have_regions.Goals as goal

pub returns-clause-begins : goal.returns-clause-begins
returns-clause-begins c = start_keeps

pub returns-clause-stays : goal.returns-clause-stays
returns-clause-stays c = λ spec height r s got step command tall h. step_keeps spec height tall r s got step h command

pub returns-clause-region : goal.returns-clause-region
returns-clause-region c = region_there
