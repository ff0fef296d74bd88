use Rattle.std.proofs.Common.{◌≡◌, drop}
use Rattle.sg_ast.specs.FirstFault.{first}
use Rattle.sg_typing.specs.ShownTypes.{hidden_item}
use Rattle.sg_typing.proofs.shown.hidden_in.Given as goal

abbrev pub invariant-loop-item : goal.invariant-loop-item
invariant-loop-item l = first (hidden_item l.names l.op) (drop l.item-index l.items) ≡ first (hidden_item l.names l.op) l.items
