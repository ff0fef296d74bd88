use Rattle.std.proofs.Common.{◌≡◌, ◌++◌, map, flat_map, drop}
use Rattle.sg_ast.specs.View.{tree_of, trees_of}
use Rattle.sg_names.specs.Names.{function_at}
use Rattle.sg_tables.proofs.definitions.functions.Given as goal

abbrev pub invariant-loop-decl : goal.invariant-loop-decl
invariant-loop-decl l = l.functions.items ++ flat_map (function_at l.phyla) (map tree_of (drop l.decl-index l.decls)) ≡ flat_map (function_at l.phyla) (trees_of l.decls)
