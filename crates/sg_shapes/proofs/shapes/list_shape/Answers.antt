use Rattle.std.proofs.Common.{◌∙◌}
use Rattle.sg_shapes.proofs.Roots.{lists_found}
use Rattle.sg_shapes.proofs.shapes.list_shape.Goals as goal

pub returns : goal.returns
returns c = c.in_ok-found.ensures ∙ lists_found c.args.names.now c.args.decls.now
