use Rattle.std.proofs.Common.{◌∙◌}
use Rattle.sg_shapes.proofs.Roots.{optionals_found}
use Rattle.sg_shapes.proofs.shapes.optional_shape.Goals as goal

pub returns : goal.returns
returns c = c.in_ok-found.ensures ∙ optionals_found c.args.names.now c.args.decls.now
