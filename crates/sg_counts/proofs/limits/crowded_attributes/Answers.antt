use Rattle.std.proofs.Common.{List, ap, ◌∙◌, bytes_eq}
use Rattle.sg_counts.specs.Crowds.{crowd}
use Rattle.sg_counts.specs.OwnersView.{names_of}
use Rattle.sg_counts.proofs.Names.{told, crowd_names}
use Rattle.sg_counts.proofs.limits.crowded_attributes.Goals as goal

pub returns : goal.returns
returns c = told c.crowd.result c.crowd.ensures (crowd_names 32 c.deref.result.now ∙ ap (λ (l : List _). crowd bytes_eq 32 l) (ap names_of c.deref.ensures.value ∙ c.in_ok-attributes.ensures))
