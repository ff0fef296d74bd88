use Rattle.std.proofs.Common.{◌≡◌, ◌++◌, map, take}
use Rattle.std.specs.List.{flat_map}
use Rattle.sg_ast.specs.Declarations.{Right}
use Rattle.sg_ast.specs.View.{right_of}
use Rattle.sg_counts.specs.Duplicates.{expr_defined}
use Rattle.sg_counts.specs.DefinitionsView.{seen_of}
use Rattle.sg_counts.proofs.definitions.add_rights.Given as goal

abbrev pub invariant-loop-right : goal.invariant-loop-right
invariant-loop-right l = seen_of l.found.items ≡ seen_of l.initial.found.items ++ flat_map (λ (x : Right). expr_defined x.expr) (map right_of (take l.right-index l.rights))
