use Rattle.std.proofs.Common.{◌≡◌, ◌++◌, drop, map, flat_map}
use Rattle.sg_ast.specs.View.{tree_of, trees_of}
use Rattle.sg_record.specs.Record.{entry_at}
use Rattle.sg_record.proofs.entries.entries.Given as goal

abbrev pub invariant-loop-decl : goal.invariant-loop-decl
invariant-loop-decl l = l.entries.items ++ flat_map (entry_at l.names) (map tree_of (drop l.decl-index l.decls)) ≡ flat_map (entry_at l.names) (trees_of l.decls)
