use Rattle.std.proofs.Common.{◌≡◌, drop}
use Rattle.sg_ast.specs.View.{trees_of}
use Rattle.sg_record.specs.Entries.{entry_type}
use Rattle.sg_record.proofs.entries.entry_type.Given as goal

abbrev pub invariant-loop-decl : goal.invariant-loop-decl
invariant-loop-decl l = entry_type l.names (trees_of (drop l.decl-index l.decls)) ≡ entry_type l.names (trees_of l.decls)
