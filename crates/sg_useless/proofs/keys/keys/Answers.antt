use Rattle.std.proofs.Common.{◌∙◌}
use Rattle.sg_useless.proofs.SameParts.{all_same}
use Rattle.sg_useless.proofs.keys.keys.Goals as goal

pub returns : goal.returns
returns c = λ x. c.in_ok-set.ensures x ∙ all_same x c.args.parts.now
