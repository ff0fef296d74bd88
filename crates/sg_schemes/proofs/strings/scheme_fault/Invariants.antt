use Rattle.std.proofs.Common.{◌≡◌, drop}
use Rattle.sg_ast.specs.FirstFault.{first}
use Rattle.sg_schemes.specs.Strings.{item_fault}
use Rattle.sg_schemes.proofs.strings.scheme_fault.Given as goal

abbrev pub invariant-loop-item : goal.invariant-loop-item
invariant-loop-item l = first item_fault (drop l.item-index l.item-items) ≡ first item_fault l.item-items
