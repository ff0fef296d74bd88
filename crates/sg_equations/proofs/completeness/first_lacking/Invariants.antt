use Rattle.std.proofs.Common.{◌≡◌, List, None}
use Rattle.sg_ast.specs.FirstFault.{first}
use Rattle.sg_kinds.specs.Instances.{below}
use Rattle.sg_equations.specs.declared.targets.Defined.{Defined}
use Rattle.sg_equations.specs.Complete.{lacking}
use Rattle.sg_equations.specs.Keys.{AreSeen}
use Rattle.sg_equations.proofs.completeness.first_lacking.Given as goal

abbrev pub invariant-loop-number : goal.invariant-loop-number
invariant-loop-number l = (defs : List Defined) → AreSeen defs l.seen → first (lacking l.names defs) (below l.number) ≡ None
