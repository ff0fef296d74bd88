use Rattle.std.proofs.Common.{◌≡◌, ◌++◌, drop, map}
use Rattle.sg_ast.specs.View.{tree_of, trees_of}
use Rattle.sg_record.specs.Record.{bodies_in}
use Rattle.sg_record.proofs.bodies.bodies.Given as goal

abbrev pub invariant-loop-decl : goal.invariant-loop-decl
invariant-loop-decl l = l.bodies.items ++ bodies_in l.k (map tree_of (drop l.decl-index l.decls)) ≡ bodies_in 0 (trees_of l.decls)
