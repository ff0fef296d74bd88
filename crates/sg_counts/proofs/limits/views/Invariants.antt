use Rattle.std.proofs.Common.{◌≡◌, take}
use Rattle.std.specs.List.{flat_map}
use Rattle.sg_ast.specs.View.{trees_of}
use Rattle.sg_counts.specs.Limits.{views_in}
use Rattle.sg_counts.specs.OwnersView.{names_of}
use Rattle.sg_counts.proofs.limits.views.Given as goal

abbrev pub invariant-loop-decl : goal.invariant-loop-decl
invariant-loop-decl l = names_of l.found.items ≡ flat_map views_in (trees_of (take l.decl-index l.decls))
