use Rattle.std.proofs.Common.{◌≡◌, ◌++◌, drop, map}
use Rattle.std.specs.Prelude.{flat_map}
use Rattle.sg_ast.specs.View.{equation_of}
use Rattle.sg_mistyped.specs.Mistyped.{of_equation}
use Rattle.sg_mistyped.proofs.bodies.equations.Given as goal

abbrev pub invariant-loop-each : goal.invariant-loop-each
invariant-loop-each l = l.found.items ++ flat_map (of_equation l.names l.op) (map equation_of (drop l.each-index l.equations))
    ≡ l.initial.found.items ++ flat_map (of_equation l.names l.op) (map equation_of l.equations)
