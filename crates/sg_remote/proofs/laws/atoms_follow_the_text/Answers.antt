use Rattle.sg_remote.proofs.TextOrder.{atoms_ordered, first_in_text}
use Rattle.sg_remote.proofs.laws.atoms_follow_the_text.Goals as goal

pub returns-clause-order : goal.returns-clause-order
returns-clause-order c = atoms_ordered

pub returns-clause-first : goal.returns-clause-first
returns-clause-first c = first_in_text
