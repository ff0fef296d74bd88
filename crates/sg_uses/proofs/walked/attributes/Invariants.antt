use Rattle.std.proofs.Common.{◌≡◌, map, drop}
use Rattle.sg_uses.specs.Noted.{noted}
use Rattle.sg_names.specs.Uses as uses
use Rattle.sg_ast.specs.declared.decl.AttrDecl.{AttrDecl}
use Rattle.sg_uses.proofs.walked.attributes.Given as goal

abbrev pub invariant-loop-attr : goal.invariant-loop-attr
invariant-loop-attr l = noted l.context.names.now l.found (map (λ (a : AttrDecl). uses.UsesPhylum a.of) (drop l.attr-index l.attrs)) ≡ noted l.context.names.now l.fn.found (map (λ (a : AttrDecl). uses.UsesPhylum a.of) l.attrs)
