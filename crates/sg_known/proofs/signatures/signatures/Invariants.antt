use Rattle.std.proofs.Common.{◌≡◌, ◌++◌, drop}
use Rattle.std.specs.Prelude.{flat_map}
use Rattle.sg_ast.specs.View.{trees_of}
use Rattle.sg_known.specs.Signatures.{signature_lines, signature_of}
use Rattle.sg_known.proofs.signatures.signatures.Given as goal

abbrev pub invariant-loop-decl : goal.invariant-loop-decl
invariant-loop-decl l = l.out.items ++ flat_map (signature_of l.name) (trees_of (drop l.decl-index l.decls)) ≡ signature_lines (trees_of l.decls) l.name
