use Rattle.std.proofs.Common.{◌≡◌, ◌++◌, drop}
use Rattle.sg_ast.specs.View.{trees_of}
use Rattle.sg_remote.specs.Atoms.{atoms}
use Rattle.sg_remote.proofs.atoms.atoms.Given as goal

abbrev pub invariant-loop-decl : goal.invariant-loop-decl
invariant-loop-decl l = l.atoms.items ++ atoms l.names (trees_of (drop l.decl-index l.decls)) ≡ atoms l.names (trees_of l.decls)
