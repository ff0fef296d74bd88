use Rattle.sg_unparse.proofs.TypedText.{before_typed}
use Rattle.sg_unparse.proofs.Begins.{region_begins_alike}
use Rattle.sg_unparse.proofs.laws.typing_moves_nothing_before.Goals as goal

pub returns-clause-written : goal.returns-clause-written
returns-clause-written c = before_typed

pub returns-clause-begins : goal.returns-clause-begins
returns-clause-begins c = region_begins_alike
