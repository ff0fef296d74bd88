use Rattle.std.proofs.Common.{◌≡◌, map, take}
use Rattle.sg_ast.specs.View.{trees_of}
use Rattle.sg_views.specs.Views.{row_of}
use Rattle.sg_views.proofs.views.views.Given as goal

abbrev pub invariant-loop-view : goal.invariant-loop-view
invariant-loop-view l = l.rows.items ≡ map (row_of l.names (trees_of l.decls)) (take l.view-index l.view-items)
