use Rattle.std.proofs.Common.{◌≡◌, ◌++◌, drop, map}
use Rattle.std.specs.Vec.Iter.{into_iter_items}
use Rattle.sg_ast.specs.View.{tree_of, trees_of}
use Rattle.sg_typing.specs.Bodies.{patterns_in}
use Rattle.sg_record.specs.Record.{transforms_in}
use Rattle.sg_record.proofs.transforms.transforms.Given as goal

abbrev pub invariant-loop-decl : goal.invariant-loop-decl
invariant-loop-decl l = record {
  patterns : into_iter_items l.patterns ≡ patterns_in l.names (map tree_of (drop l.decl-index l.decls));
  made : l.transforms.items ++ transforms_in l.names l.k (map tree_of (drop l.decl-index l.decls)) ≡ transforms_in l.names 0 (trees_of l.decls);
}
