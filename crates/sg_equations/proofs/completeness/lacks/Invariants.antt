use Rattle.std.proofs.Common.{◌≡◌, List, false}
use Rattle.std.specs.List.{list_any}
use Rattle.sg_kinds.specs.Instances.{below}
use Rattle.sg_equations.specs.declared.targets.Defined.{Defined}
use Rattle.sg_equations.specs.Complete.{lacks_at}
use Rattle.sg_equations.specs.Keys.{AreSeen}
use Rattle.sg_equations.proofs.completeness.lacks.Given as goal

abbrev pub invariant-loop-at : goal.invariant-loop-at
invariant-loop-at l = (defs : List Defined) → AreSeen defs l.seen → list_any (lacks_at l.names defs l.op) (below l.at) ≡ false
