use Rattle.std.proofs.Common.{◌∙◌}
use Rattle.sg_shapes.proofs.Roots.{roots_found}
use Rattle.sg_shapes.proofs.shapes.root_inherits.Goals as goal

pub returns : goal.returns
returns c = c.in_ok-found.ensures ∙ roots_found c.args.names.now c.args.decls.now
