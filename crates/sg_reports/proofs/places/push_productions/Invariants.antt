use Rattle.std.proofs.Common.{◌≡◌, ◌++◌, take, flat_map}
use Rattle.sg_ast.specs.View.{trees_of}
use Rattle.sg_reports.specs.Places.{rights_at}
use Rattle.sg_reports.proofs.places.push_productions.Given as goal

abbrev pub invariant-loop-decl : goal.invariant-loop-decl
invariant-loop-decl l = l.places.items ≡ l.initial.places.items ++ flat_map rights_at (trees_of (take l.decl-index l.decls))
