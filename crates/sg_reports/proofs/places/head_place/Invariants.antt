use Rattle.std.proofs.Common.{◌≡◌, drop}
use Rattle.sg_ast.specs.View.{trees_of}
use Rattle.sg_ast.specs.Parts.{head_place}
use Rattle.sg_reports.proofs.places.head_place.Given as goal

abbrev pub invariant-loop-decl : goal.invariant-loop-decl
invariant-loop-decl l = head_place l.name (trees_of (drop l.decl-index l.decls)) ≡ head_place l.name (trees_of l.decls)
