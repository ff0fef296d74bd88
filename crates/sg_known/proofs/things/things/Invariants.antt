use Rattle.std.proofs.Common.{◌≡◌, ◌++◌, drop}
use Rattle.sg_ast.specs.View.{trees_of}
use Rattle.sg_known.specs.Things.{things}
use Rattle.sg_known.proofs.things.things.Given as goal

abbrev pub invariant-loop-decl : goal.invariant-loop-decl
invariant-loop-decl l = l.found.items ++ things (trees_of (drop l.decl-index l.decls)) ≡ things (trees_of l.decls)
