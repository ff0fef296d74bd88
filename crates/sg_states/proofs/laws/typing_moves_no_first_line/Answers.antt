use Rattle.sg_states.proofs.Typing.{line_stays}
use Rattle.sg_states.proofs.laws.typing_moves_no_first_line.Goals as goal

pub returns : goal.returns
returns c = λ spec v t u text r s one two. line_stays spec v t u text r s one two
