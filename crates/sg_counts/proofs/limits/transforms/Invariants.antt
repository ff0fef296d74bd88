use Rattle.std.proofs.Common.{◌≡◌, ◌≤◌, take}
use Rattle.std.specs.List.{count_by}
use Rattle.sg_ast.specs.View.{tree_of}
use Rattle.sg_counts.specs.Limits.{is_transform}
use Rattle.sg_counts.proofs.limits.transforms.Given as goal

abbrev pub invariant-loop-decl : goal.invariant-loop-decl
invariant-loop-decl l = record {
  so_far : l.count ≡ count_by (λ d. is_transform (tree_of d)) (take l.decl-index l.decls);
  few : l.count ≤ l.decl-index;
}
