use Rattle.sg_glosses.proofs.Saving.{keeps_saved, saved_again}
use Rattle.sg_glosses.proofs.laws.saved_values_are_loaded.Goals as goal

pub returns-clause-kept : goal.returns-clause-kept
returns-clause-kept c = keeps_saved

pub returns-clause-loaded : goal.returns-clause-loaded
returns-clause-loaded c = saved_again
