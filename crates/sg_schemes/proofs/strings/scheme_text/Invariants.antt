use Rattle.std.proofs.Common.{◌≡◌, drop}
use Rattle.sg_ast.specs.View.{trees_of}
use Rattle.sg_schemes.specs.Strings.{scheme_text}
use Rattle.sg_schemes.proofs.strings.scheme_text.Given as goal

abbrev pub invariant-loop-decl : goal.invariant-loop-decl
invariant-loop-decl l = scheme_text (trees_of (drop l.decl-index l.decls)) ≡ scheme_text (trees_of l.decls)
