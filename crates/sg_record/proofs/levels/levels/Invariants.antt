use Rattle.std.proofs.Common.{◌≡◌, ◌++◌, drop, map, flat_map}
use Rattle.sg_ast.specs.View.{tree_of, trees_of}
use Rattle.sg_record.specs.Record.{levels_at}
use Rattle.sg_record.proofs.levels.levels.Given as goal

abbrev pub invariant-loop-decl : goal.invariant-loop-decl
invariant-loop-decl l = l.levels.items ++ flat_map levels_at (map tree_of (drop l.decl-index l.decls)) ≡ flat_map levels_at (trees_of l.decls)
