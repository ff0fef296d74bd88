use Rattle.std.proofs.Common.{List, ◌++◌, ap, ◌∙◌}
use Rattle.sg_useless.specs.Parts.{Part}
use Rattle.sg_useless.proofs.Whole.{used_by}
use Rattle.sg_useless.proofs.uses.add_shown_operators.Goals as goal

pub returns : goal.returns
returns c = c.in_ok-add_operators.ensures ∙ ap (λ (l : List Part). c.args.uses.now.items ++ l) (used_by c.args.spec.now c.args.shown.now c.requires)
