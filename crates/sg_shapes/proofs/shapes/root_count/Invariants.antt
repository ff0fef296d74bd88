use Rattle.std.proofs.Common.{◌≡◌, ◌+◌, ◌≤◌, map, drop, length}
use Rattle.sg_ast.specs.View.{tree_of, trees_of}
use Rattle.sg_names.specs.Shapes.{roots}
use Rattle.sg_shapes.proofs.shapes.root_count.Given as goal

abbrev pub invariant-loop-decl : goal.invariant-loop-decl
invariant-loop-decl l = record {
  counted : l.count + length (roots (map tree_of (drop l.decl-index l.decls))) ≡ length (roots (trees_of l.decls));
  few : l.count ≤ l.decl-index;
}
