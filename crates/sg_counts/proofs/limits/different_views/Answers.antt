use Rattle.std.proofs.Common.{List, ap, ◌∙◌, bytes_eq, length}
use Rattle.sg_counts.specs.Crowds.{different}
use Rattle.sg_counts.specs.OwnersView.{names_of}
use Rattle.sg_counts.proofs.Names.{told, different_names}
use Rattle.sg_counts.proofs.limits.different_views.Goals as goal

pub returns : goal.returns
returns c = told c.different.result c.different.ensures (different_names c.deref.result.now ∙ ap (λ (l : List _). length (different bytes_eq l)) (ap names_of c.deref.ensures.value ∙ c.in_ok-views.ensures))
