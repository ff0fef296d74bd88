use Rattle.std.proofs.Common.{◌≡◌, take}
use Rattle.std.specs.List.{flat_map}
use Rattle.sg_ast.specs.View.{trees_of}
use Rattle.sg_counts.specs.Limits.{locals_of}
use Rattle.sg_counts.specs.OwnersView.{operators_of}
use Rattle.sg_counts.proofs.limits.locals.Given as goal

abbrev pub invariant-loop-decl : goal.invariant-loop-decl
invariant-loop-decl l = operators_of l.found.items ≡ flat_map locals_of (trees_of (take l.decl-index l.decls))
