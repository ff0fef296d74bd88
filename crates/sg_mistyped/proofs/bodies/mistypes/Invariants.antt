use Rattle.std.proofs.Common.{◌≡◌, ◌++◌, drop, map}
use Rattle.sg_ast.specs.View.{tree_of}
use Rattle.sg_mistyped.specs.Mistyped.{mistypes}
use Rattle.sg_mistyped.proofs.bodies.mistypes.Given as goal

abbrev pub invariant-loop-decl : goal.invariant-loop-decl
invariant-loop-decl l = l.found.items ++ mistypes l.names (map tree_of (drop l.decl-index l.decls)) ≡ mistypes l.names (map tree_of l.decls)
