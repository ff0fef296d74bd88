use Rattle.std.proofs.Common.{◌≡◌, map, drop, unwrap_or}
use Rattle.sg_ast.specs.FirstFault.{first}
use Rattle.sg_ast.specs.View.{tree_of, trees_of}
use Rattle.sg_names.specs.Names.{root_at}
use Rattle.sg_tables.proofs.definitions.root.Given as goal

abbrev pub invariant-loop-decl : goal.invariant-loop-decl
invariant-loop-decl l = unwrap_or (first (root_at l.phyla) (map tree_of (drop l.decl-index l.decls))) 0 ≡ unwrap_or (first (root_at l.phyla) (trees_of l.decls)) 0
