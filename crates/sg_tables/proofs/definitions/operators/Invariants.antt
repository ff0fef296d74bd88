use Rattle.std.proofs.Common.{◌≡◌, ◌++◌, map, flat_map, drop}
use Rattle.sg_ast.specs.View.{tree_of, trees_of}
use Rattle.sg_names.specs.Names.{operators_at, operators_in}
use Rattle.sg_tables.proofs.definitions.operators.Given as goal

abbrev pub invariant-loop-decl : goal.invariant-loop-decl
invariant-loop-decl l = l.ops.items ++ flat_map (operators_at l.phyla) (map tree_of (drop l.decl-index l.decls)) ≡ operators_in l.phyla (trees_of l.decls)
