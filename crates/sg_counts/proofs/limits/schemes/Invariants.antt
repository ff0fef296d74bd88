use Rattle.std.proofs.Common.{◌≡◌, take}
use Rattle.std.specs.List.{flat_map}
use Rattle.sg_ast.specs.View.{trees_of}
use Rattle.sg_counts.specs.Limits.{schemes_of}
use Rattle.sg_counts.proofs.limits.schemes.Given as goal

abbrev pub invariant-loop-decl : goal.invariant-loop-decl
invariant-loop-decl l = l.found.items ≡ flat_map schemes_of (trees_of (take l.decl-index l.decls))
