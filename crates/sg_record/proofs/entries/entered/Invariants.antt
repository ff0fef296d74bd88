use Rattle.std.proofs.Common.{◌≡◌, drop, map, slice_get}
use Rattle.sg_ast.specs.View.{tree_of, trees_of}
use Rattle.sg_record.specs.Entries.{entered}
use Rattle.sg_record.proofs.entries.entered.Given as goal

abbrev pub invariant-loop-decl : goal.invariant-loop-decl
invariant-loop-decl l = slice_get (entered (map tree_of (drop l.decl-index l.decls))) l.place ≡ slice_get (entered (trees_of l.decls)) l.fn.place
