use Rattle.std.proofs.Common.{◌≡◌, drop}
use Rattle.sg_ast.specs.View.{trees_of}
use Rattle.sg_schemes.specs.ShownFlags.{give_all, given}
use Rattle.sg_schemes.proofs.shown.given.Given as goal

abbrev pub invariant-loop-decl : goal.invariant-loop-decl
invariant-loop-decl l = give_all l.names l.flags.items (trees_of (drop l.decl-index l.decls)) ≡ given l.names (trees_of l.decls)
