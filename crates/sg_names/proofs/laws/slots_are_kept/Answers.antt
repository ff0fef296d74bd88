use Rattle.sg_names.proofs.DraftedLaws.{slots_kept, slot_kept, types_kept, owed_kept}
use Rattle.sg_names.proofs.laws.slots_are_kept.Goals as goal

pub returns-clause-slots : goal.returns-clause-slots
returns-clause-slots c = slots_kept

pub returns-clause-slot : goal.returns-clause-slot
returns-clause-slot c = slot_kept

pub returns-clause-types : goal.returns-clause-types
returns-clause-types c = types_kept

pub returns-clause-owed : goal.returns-clause-owed
returns-clause-owed c = owed_kept
