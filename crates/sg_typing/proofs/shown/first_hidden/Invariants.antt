use Rattle.std.proofs.Common.{◌≡◌, drop, map}
use Rattle.sg_ast.specs.FirstFault.{first}
use Rattle.sg_ast.specs.View.{tree_of}
use Rattle.sg_typing.specs.ShownTypes.{hidden_at}
use Rattle.sg_typing.proofs.shown.first_hidden.Given as goal

abbrev pub invariant-loop-decl : goal.invariant-loop-decl
invariant-loop-decl l = first (hidden_at l.names) (map tree_of (drop l.decl-index l.decls)) ≡ first (hidden_at l.names) (map tree_of l.decls)
