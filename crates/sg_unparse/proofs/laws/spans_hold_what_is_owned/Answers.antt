use Rattle.sg_unparse.proofs.Spans.{spans_owned}
use Rattle.sg_unparse.proofs.laws.spans_hold_what_is_owned.Goals as goal

pub returns : goal.returns
returns c = spans_owned
