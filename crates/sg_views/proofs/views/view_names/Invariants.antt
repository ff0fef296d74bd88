use Rattle.std.proofs.Common.{◌≡◌, map, flat_map, drop}
use Rattle.sg_ast.specs.View.{tree_of, trees_of}
use Rattle.sg_counts.specs.Limits.{views_in}
use Rattle.sg_views.specs.Views.{view_names, with_names}
use Rattle.sg_views.proofs.views.view_names.Given as goal

abbrev pub invariant-loop-decl : goal.invariant-loop-decl
invariant-loop-decl l = with_names l.names.items (flat_map views_in (map tree_of (drop l.decl-index l.decls))) ≡ view_names (trees_of l.decls)
