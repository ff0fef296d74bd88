use Rattle.sg_groves.proofs.Held.{one_term, held_at}
use Rattle.sg_groves.proofs.laws.terms_are_held.Goals as goal

pub returns-clause-one : goal.returns-clause-one
returns-clause-one c = λ g n t s one two. one_term g n t s one two

pub returns-clause-told : goal.returns-clause-told
returns-clause-told c = λ g is n t holds. held_at g is n t holds
