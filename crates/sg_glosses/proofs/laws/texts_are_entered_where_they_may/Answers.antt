use Rattle.sg_glosses.proofs.Entering.{can_text, has_text, text_done}
use Rattle.sg_glosses.proofs.laws.texts_are_entered_where_they_may.Goals as goal

pub returns-clause-only : goal.returns-clause-only
returns-clause-only c = λ spec height r right s got step text comes fine. can_text spec height r s got step right fine text comes

pub returns-clause-everywhere : goal.returns-clause-everywhere
returns-clause-everywhere c = λ spec sound v same tables decided height r right s got step text may comes. text_done spec height r s got step sound v same tables decided right text may comes

pub returns-clause-then : goal.returns-clause-then
returns-clause-then c = λ spec height r right s got step text comes fine. has_text spec height r s got step right fine text comes
