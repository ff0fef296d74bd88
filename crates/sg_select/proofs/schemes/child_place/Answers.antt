use Rattle.std.proofs.Common.{◌∙◌}
use Rattle.sg_select.proofs.schemes.child_place.Goals as goal

pub returns : goal.returns
returns c = λ t h. c.place_in.ensures ∙ c.items_of.ensures t h c.args.k
