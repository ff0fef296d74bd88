use Rattle.std.proofs.Common.{◌≡◌, take}
use Rattle.sg_ast.specs.View.{trees_of}
use Rattle.sg_counts.specs.Duplicates.{definitions_in}
use Rattle.sg_counts.specs.DefinitionsView.{seen_of}
use Rattle.sg_counts.proofs.definitions.definitions.Given as goal

abbrev pub invariant-loop-decl : goal.invariant-loop-decl
invariant-loop-decl l = seen_of l.found.items ≡ definitions_in (trees_of (take l.decl-index l.decls))
