use Rattle.sg_select.proofs.Typing.{typed_here, typed_elsewhere}
use Rattle.sg_select.proofs.laws.typing_has_one_place.Goals as goal

pub returns-clause-here : goal.returns-clause-here
returns-clause-here c = typed_here

pub returns-clause-elsewhere : goal.returns-clause-elsewhere
returns-clause-elsewhere c = λ g is root n t x u v text placed. typed_elsewhere g is root n t u text placed x v
