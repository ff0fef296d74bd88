use Rattle.std.proofs.Common.{◌≡◌, ◌++◌, drop, map}
use Rattle.sg_ast.specs.FirstFault.{first}
use Rattle.sg_ast.specs.View.{right_of}
use Rattle.sg_typing.specs.Bodies.{right_mismatch, right_typed}
use Rattle.sg_typing.proofs.bodies.rights.Given as goal

abbrev pub invariant-loop-each : goal.invariant-loop-each
invariant-loop-each l = record {
  mismatch : first (right_mismatch l.names l.left) (map right_of (drop l.each-index l.rights)) ≡ first (right_mismatch l.names l.left) (map right_of l.rights);
  exprs : l.exprs.items ++ map (right_typed l.names l.left) (map right_of (drop l.each-index l.rights)) ≡ l.initial.exprs.items ++ map (right_typed l.names l.left) (map right_of l.rights);
}
