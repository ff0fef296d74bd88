use Rattle.std.proofs.Common.{◌≡◌, ◌++◌, map, flat_map, drop}
use Rattle.sg_ast.specs.View.{tree_of, trees_of}
use Rattle.sg_ast.specs.Parts.{op_places_at}
use Rattle.sg_tables.proofs.definitions.op_places.Given as goal

abbrev pub invariant-loop-decl : goal.invariant-loop-decl
invariant-loop-decl l = l.places.items ++ flat_map op_places_at (map tree_of (drop l.decl-index l.decls)) ≡ flat_map op_places_at (trees_of l.decls)
