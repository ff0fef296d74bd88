use Rattle.std.proofs.Common.{◌≡◌, ◌++◌, drop, map}
use Rattle.sg_ast.specs.FirstFault.{first}
use Rattle.sg_ast.specs.View.{equation_of}
use Rattle.sg_typing.specs.Bodies.{equation_mismatch, equation_typed}
use Rattle.sg_typing.proofs.bodies.equations.Given as goal

abbrev pub invariant-loop-each : goal.invariant-loop-each
invariant-loop-each l = record {
  mismatch : first (equation_mismatch l.names l.op) (map equation_of (drop l.each-index l.equations)) ≡ first (equation_mismatch l.names l.op) (map equation_of l.equations);
  exprs : l.exprs.items ++ map (equation_typed l.names l.op) (map equation_of (drop l.each-index l.equations)) ≡ l.initial.exprs.items ++ map (equation_typed l.names l.op) (map equation_of l.equations);
}
