use Rattle.std.proofs.Common.{◌≡◌, ℕ, ◌≤◌, Some, map}
use Rattle.sg_kinds.specs.Instances.{below}
use Rattle.sg_ast.specs.View.{trees_of}
use Rattle.sg_names.specs.Rows.{row_at}
use Rattle.sg_views.specs.Schemes.{schemes_of}
use Rattle.sg_views.proofs.views.row.Given as goal

abbrev pub invariant-loop-place : goal.invariant-loop-place
invariant-loop-place l = record {
  made : l.row.items ≡ map (schemes_of l.names (Some l.view) (trees_of l.decls)) (below l.place);
  schemes : (k : ℕ) → l.place ≤ k → row_at l.found k ≡ schemes_of l.names (Some l.view) (trees_of l.decls) k;
}
