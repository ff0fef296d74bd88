use Rattle.std.proofs.Common.{◌≡◌, ◌++◌, drop, map}
use Rattle.std.specs.Prelude.{flat_map}
use Rattle.sg_ast.specs.View.{right_of}
use Rattle.sg_mistyped.specs.Mistyped.{of_right}
use Rattle.sg_mistyped.proofs.bodies.rights.Given as goal

abbrev pub invariant-loop-each : goal.invariant-loop-each
invariant-loop-each l = l.found.items ++ flat_map (of_right l.names l.left) (map right_of (drop l.each-index l.rights))
    ≡ l.initial.found.items ++ flat_map (of_right l.names l.left) (map right_of l.rights)
