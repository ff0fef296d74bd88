use Rattle.sg_names.proofs.DraftedLaws.{completing_kept, placeholder_kept, finite_kept}
use Rattle.sg_names.proofs.laws.terms_are_kept.Goals as goal

pub returns-clause-completing : goal.returns-clause-completing
returns-clause-completing c = completing_kept

pub returns-clause-placeholder : goal.returns-clause-placeholder
returns-clause-placeholder c = placeholder_kept

pub returns-clause-finite : goal.returns-clause-finite
returns-clause-finite c = finite_kept
