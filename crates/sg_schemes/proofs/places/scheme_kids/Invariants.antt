use Rattle.std.proofs.Common.{◌≡◌, drop}
use Rattle.sg_ast.specs.View.{trees_of}
use Rattle.sg_schemes.specs.Places.{scheme_kids}
use Rattle.sg_schemes.proofs.places.scheme_kids.Given as goal

abbrev pub invariant-loop-decl : goal.invariant-loop-decl
invariant-loop-decl l = scheme_kids l.names (trees_of (drop l.decl-index l.decls)) ≡ scheme_kids l.names (trees_of l.decls)
