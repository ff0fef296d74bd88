use Rattle.std.proofs.Common.{◌≡◌, map, flat_map, drop}
use Rattle.sg_ast.specs.View.{tree_of, trees_of}
use Rattle.sg_uses.specs.Noted.{noted, nothing_found}
use Rattle.sg_names.specs.Uses as uses
use Rattle.sg_uses.proofs.walked.walked_from.Given as goal

abbrev pub invariant-loop-decl : goal.invariant-loop-decl
invariant-loop-decl l = noted l.names l.found (flat_map (uses.decl_uses l.names) (map tree_of (drop l.decl-index l.decls))) ≡ noted l.names nothing_found (uses.uses l.names (trees_of l.decls))
