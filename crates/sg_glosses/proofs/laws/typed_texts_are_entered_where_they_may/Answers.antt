use Rattle.sg_glosses.proofs.Entering.{can_enter, has_enter, enter_done}
use Rattle.sg_glosses.proofs.laws.typed_texts_are_entered_where_they_may.Goals as goal

pub returns-clause-only : goal.returns-clause-only
returns-clause-only c = λ spec height r right s got step comes fine. can_enter spec height r s got step right fine comes

pub returns-clause-everywhere : goal.returns-clause-everywhere
returns-clause-everywhere c = λ spec sound v same tables decided height r right s got step may comes. enter_done spec height r s got step sound v same tables decided right may comes

pub returns-clause-then : goal.returns-clause-then
returns-clause-then c = λ spec height r right s got step comes fine. has_enter spec height r s got step right fine comes
