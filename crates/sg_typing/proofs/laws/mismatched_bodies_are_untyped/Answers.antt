use Rattle.sg_typing.proofs.BodyUntyped.{equation_untyped, function_untyped, right_untyped, transform_untyped}
use Rattle.sg_typing.proofs.laws.mismatched_bodies_are_untyped.Goals as goal

pub returns : goal.returns
returns c = record { equations = equation_untyped; functions = function_untyped; transforms = transform_untyped; productions = right_untyped }
