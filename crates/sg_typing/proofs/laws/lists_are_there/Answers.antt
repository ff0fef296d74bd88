use Rattle.sg_typing.proofs.ListsThere.{lists_there}
use Rattle.sg_typing.proofs.laws.lists_are_there.Goals as goal

pub returns : goal.returns
returns c = lists_there
