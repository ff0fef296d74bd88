use Rattle.std.proofs.Common.{List, ap, ◌∙◌}
use Rattle.sg_counts.specs.Crowds.{crowd}
use Rattle.sg_counts.specs.Limits.{is_same_operator}
use Rattle.sg_counts.specs.OwnersView.{operators_of}
use Rattle.sg_counts.proofs.Names.{told, crowd_operators}
use Rattle.sg_counts.proofs.limits.crowded_locals.Goals as goal

pub returns : goal.returns
returns c = told c.crowd.result c.crowd.ensures (crowd_operators 32 c.deref.result.now ∙ ap (λ (l : List _). crowd is_same_operator 32 l) (ap operators_of c.deref.ensures.value ∙ c.in_ok-locals.ensures))
