use Rattle.std.proofs.Common.{List, ◌++◌, ap, ◌∙◌}
use Rattle.sg_useless.specs.Parts.{Part}
use Rattle.sg_useless.proofs.Whole.{unseen_by}
use Rattle.sg_useless.proofs.finding.add_all_unseen.Goals as goal

pub returns : goal.returns
returns c = c.in_ok-add_unseen.ensures ∙ ap (λ (l : List Part). c.args.parts.now.items ++ l) (unseen_by c.args.spec.now c.args.shown.now c.requires)
