use Rattle.std.proofs.Common.{◌≡◌, take}
use Rattle.sg_ast.specs.View.{trees_of}
use Rattle.sg_reports.specs.Places.{operator_places}
use Rattle.sg_reports.proofs.places.operator_places.Given as goal

abbrev pub invariant-loop-decl : goal.invariant-loop-decl
invariant-loop-decl l = l.places.items ≡ operator_places (trees_of (take l.decl-index l.decls))
