use Rattle.std.proofs.Common.{◌≡◌, take}
use Rattle.sg_ast.specs.View.{trees_of}
use Rattle.sg_reports.specs.Places.{line_places}
use Rattle.sg_reports.proofs.places.line_places.Given as goal

abbrev pub invariant-loop-decl : goal.invariant-loop-decl
invariant-loop-decl l = l.places.items ≡ line_places (trees_of (take l.decl-index l.decls))
